use Rattle.search_yard.proofs.under_ceiling.Goals as goal

pub returns : goal.returns
returns c =
    let e = c.ceiling-ceiling.ensures in
    let m = c.measure.ensures in record {
      measures = λ road k. rw (← e) (m.measures road k);
      run = λ road k. rw (← e) (m.run road k);
    }
