-- What the goal of a formula, and the tuple of comparisons, are made of.
use Rattle.std.specs.Prelude.{◌≡◌, ◌+◌, ◌^◌, ◌<◌, false, List, length}
use Rattle.ded_model.specs.declared.name.Column.{Column}
use Rattle.ded_model.specs.Form.{Form, FormAtom}
use Rattle.ded_model.specs.Known.{has_unbound, scope_of}
use Rattle.ded_model.specs.Logic.{Logics, every_of, some_below, some_atom_of, quantifiers}
use Rattle.ded_model.specs.LongRows.{is_long_atom}
use Rattle.ded_model.specs.Plain.{IsPlain}
use Rattle.ded_resolve.specs.TextSums.{has_text_sum}
use Rattle.ded_resolve.specs.Tuples.{is_missorted_comparison}

-- each variable is bound, each sum has each name once, a denominator above 0 and no text variable, the sums of a comparison are over one denominator,
-- and there are few slots
pub record IsReady (h : List Column) (f : Form) : Type 0 where
  pub plain : IsPlain f
  pub bound : has_unbound h f ≡ false
  pub sorted : some_below has_text_sum (scope_of h) f ≡ false
  pub few : length h + quantifiers f < 2 ^ 32

-- the same of comparisons, where no text stands in the place of a number or a number in the place of a text, and no row has a
-- number above 2^63 - 1 in magnitude
pub record AreReady (h : List Column) (fs : Logics FormAtom) : Type 0 where
  pub plain : IsPlain (every_of fs)
  pub bound : has_unbound h (every_of fs) ≡ false
  pub sorted : some_below is_missorted_comparison (scope_of h) (every_of fs) ≡ false
  pub short : some_atom_of is_long_atom fs ≡ false
