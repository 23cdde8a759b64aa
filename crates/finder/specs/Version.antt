-- The version of the calls as one number: 10,000 for each major, 100 for each minor, 1 for each patch. The header has
-- the same number, so that a caller sees whether header and library fit. Assumes nothing: this is a definition.
use Rattle.std.specs.Prelude.{ℕ}

-- 2.2.0
abbrev pub version_number : ℕ
version_number = 20200
