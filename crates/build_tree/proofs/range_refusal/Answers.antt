use Rattle.build_tree.proofs.Answering.{few-landmarks, many_landmarks, low-limit, high-limit, in_range_lem}
use Rattle.build_tree.proofs.range_refusal.Goals as goal

pub returns-then-m-lt1 : goal.returns-then-m-lt1
returns-then-m-lt1 c = few-landmarks _ _ c.if-m-lt1.true

pub returns-then-m-gt-MOST_LANDMARKS : goal.returns-then-m-gt-MOST_LANDMARKS
returns-then-m-gt-MOST_LANDMARKS c = many_landmarks _ _ c.if-m-lt1.false c.if-m-gt-MOST_LANDMARKS.true

pub returns-then-limit-lt1 : goal.returns-then-limit-lt1
returns-then-limit-lt1 c = low-limit _ _ c.if-m-lt1.false c.if-m-gt-MOST_LANDMARKS.false c.if-limit-lt1.true

pub returns-then-limit-gt-MOST_YARDS : goal.returns-then-limit-gt-MOST_YARDS
returns-then-limit-gt-MOST_YARDS c = high-limit _ _ c.if-m-lt1.false c.if-m-gt-MOST_LANDMARKS.false c.if-limit-lt1.false c.if-limit-gt-MOST_YARDS.true

pub returns : goal.returns
returns c = in_range_lem _ _ c.if-m-lt1.false c.if-m-gt-MOST_LANDMARKS.false c.if-limit-lt1.false c.if-limit-gt-MOST_YARDS.false
