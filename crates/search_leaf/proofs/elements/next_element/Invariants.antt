use Rattle.tree_layout.specs.Decode.{read_list}
use Rattle.search_state.specs.code.State.{fs_in, gone_in}
use Rattle.search_leaf.specs.code.Leaves.{words_of}
use Rattle.search_leaf.proofs.Scanning.{Scanned}
use Rattle.search_leaf.proofs.elements.next_element.Given as goal

abbrev pub invariant-loop-k : goal.invariant-loop-k
invariant-loop-k l = Scanned (words_of (fs_in l.h.junctions l.values) (gone_in l.h.regions l.h.junctions l.words) (read_list l.v l.list l.yards 0)) l.k l.place l.f
