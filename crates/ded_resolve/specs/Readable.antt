-- Which formulas are read by slots.
use Rattle.std.specs.Prelude.{◌≡◌, ℕ, ◌+◌, ◌^◌, ◌<◌, false}
use Rattle.ded_model.specs.Logic.{Logics, AllAtomsOf, some_below, some_below_of, quantifiers, quantifiers_of}
use Rattle.ded_model.specs.Form.{Form, FormAtom}
use Rattle.ded_model.specs.Slotted.{SlotScope}
use Rattle.ded_model.specs.Known.{is_unbound_atom}
use Rattle.ded_model.specs.Plain.{IsPlain, IsPlainAtom}
use Rattle.ded_resolve.specs.TextSums.{has_text_sum}
use Rattle.ded_resolve.specs.Scope.{sorts_of, IsNumbered}

-- in the scope each variable is bound, each sum has each name once and no text variable, the sums of a comparison are over one
-- denominator, and the quantifiers have numbers from the next one on
pub record IsReadable (scope : SlotScope) (next : ℕ) (f : Form) : Type 0 where
  pub numbered : IsNumbered scope next
  pub plain : IsPlain f
  pub bound : some_below is_unbound_atom (sorts_of scope) f ≡ false
  pub sorted : some_below has_text_sum (sorts_of scope) f ≡ false
  pub few : next + quantifiers f < 2 ^ 32

-- so in each formula of a list
pub record AreReadable (scope : SlotScope) (next : ℕ) (fs : Logics FormAtom) : Type 0 where
  pub numbered : IsNumbered scope next
  pub plain : AllAtomsOf IsPlainAtom fs
  pub bound : some_below_of is_unbound_atom (sorts_of scope) fs ≡ false
  pub sorted : some_below_of has_text_sum (sorts_of scope) fs ≡ false
  pub few : next + quantifiers_of fs < 2 ^ 32
