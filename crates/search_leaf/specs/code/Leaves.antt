-- A leaf's list by arrays: a word for each of its yards, and which leaves next. Assumes nothing: these are definitions.
use Rattle.std.specs.Prelude.{◌≡◌, Bool, ℕ, ◌+◌, ◌≤◌, ◌<◌, length, get_or, set, eqb}
use mathlib.Core.List.{List, [], ◌∷◌, Memᴰ as Mem}
use Rattle.book.specs.Choose.{choose}
use Rattle.book.specs.Open.{version}
use Rattle.kinds.specs.Kinds.{shares}
use Rattle.tree_layout.specs.Values.{Element, Mark}
use Rattle.tree_layout.specs.Sizes.{junction_size, list_size}
use Rattle.tree_layout.specs.Decode.{read_list, list_part}
use Rattle.search_rules.specs.Instance.{Instance}
use Rattle.search_rules.specs.Bounds.{f, yard_bound}
use Rattle.search_rules.specs.Queue.{unqueued}
use Rattle.search_rules.specs.Step.{left}
use Rattle.search_bounds.specs.code.Rows.{rows_lower}
use Rattle.search_bounds.specs.code.Measures.{longest, f_by, yard_bound_by}
use Rattle.search_state.specs.code.State.{bounds_at}
use Rattle.search_leaf.specs.declared.Form.{Form}

-- every yard of a list is below n
abbrev pub Near : ℕ → List Element → Type 0
Near n es = (e : Element) → Mem e es → e.yard < n

-- words by junction, with that of each element of a list set at its yard
unfoldable pub by_yard : (Element → ℕ) → List Element → List ℕ → List ℕ
by_yard g [] ws = ws
by_yard g (e ∷ es) ws = by_yard g es (set ws e.yard (g e))

-- the values of a search's yards, with g of each element of a list set at its yard among the f's, and b of it among
-- the bounds
unfoldable pub by_yards : (g b : Element → ℕ) → List Element → List ℕ → List ℕ
by_yards g b [] vs = vs
by_yards g b (e ∷ es) vs = by_yards g b es (set (set vs e.yard (g e)) (bounds_at + e.yard) (b e))

-- what stands for the f of a yard that is not wanted: no f is so great
abbrev pub unwanted_f : ℕ
unwanted_f = 4294967295

-- the values, with that set among the f's for each element of a list whose yard has no wanted kind
unfoldable pub pass_over : (wanted : ℕ) → List Element → List ℕ → List ℕ
pass_over wanted [] vs = vs
pass_over wanted (e ∷ es) vs =
    pass_over wanted es (choose (shares wanted e.kinds) vs (set vs e.yard unwanted_f))

-- what f and the bound of each element of a list are computed of is short: its distance, and LB of its yard and each
-- crew by the landmark table's rows
pub record ShortList (table : List ℕ) (rows : ℕ) (crews : List ℕ) (es : List Element) : Type 0 where
  pub distances : (e : Element) → Mem e es → e.distance ≤ longest
  pub lowers : (e : Element) → Mem e es → (q : ℕ) → Mem q crews → rows_lower table rows e.yard q ≤ longest

-- an element's f, and its yard's bound: out has the landmark's distances to the crews
abbrev pub f_in : ℕ → List ℕ → Element → ℕ
f_in code out e = f_by code out e.distance

abbrev pub bound_in : ℕ → List ℕ → ℕ → List ℕ → List ℕ → Element → ℕ
bound_in code table rows crews out e = yard_bound_by code table rows crews out e.yard e.distance (length crews)

-- the word of what stands among the f's
unfoldable pub f_word : ℕ → ℕ
f_word x = choose (eqb x unwanted_f) unqueued x

-- yard y's word, or `unqueued` if it has left or is not wanted
unfoldable pub element_word : List ℕ → List Bool → ℕ → ℕ
element_word fs gone y = choose (left gone y) unqueued (f_word (get_or fs y 0))

-- for each element its word
unfoldable pub words_of : List ℕ → List Bool → List Element → List ℕ
words_of fs gone [] = []
words_of fs gone (e ∷ es) = element_word fs gone e.yard ∷ words_of fs gone es

-- the list of the leaf's landmark that stands at a place of a tree book
unfoldable pub list_at : List ℕ → ℕ → ℕ → List Element
list_at tree at yards = read_list (version tree) (list_part (version tree) tree yards (at + junction_size)) yards 0

-- f, if it is wanted, and the bound of each yard of a landmark's list stand at its junction
pub record Opened (i : Instance) (m : Mark) (fs bounds : List ℕ) : Type 0 where
  pub words : (e : Element) → Mem e m.list → get_or fs e.yard 0 ≡ choose (i.wants e.yard) (f i m e) unwanted_f
  pub keys : (e : Element) → Mem e m.list → get_or bounds e.yard 0 ≡ yard_bound i m e

-- the elements of a list of a form, and that the list has room for them
abbrev pub elements_of : List ℕ → Form → List Element
elements_of list form = read_list form.version list form.yards 0

abbrev pub FormedList : List ℕ → Form → Type 0
FormedList list form = (form.yards ≤ 65535) × (list_size form.version form.yards ≤ length list)
