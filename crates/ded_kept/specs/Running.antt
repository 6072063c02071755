-- What a run over kept statements leaves.
use Rattle.std.specs.Prelude.{◌≡◌, true, Bool, ℕ, List, Option}
use Rattle.ded_dialogue.specs.Outcome.{AnsweredIn}
use Rattle.ded_model.specs.Catalogue.{Catalogue}
use Rattle.ded_recording.specs.Listings.{Listing}
use Rattle.ded_recording.specs.Surviving.{recorded_from}
use Rattle.ded_kept.specs.Answering.{KeptState, keeps}
use Rattle.ded_kept.specs.Defining.{IsDefinedBy}
use Rattle.ded_kept.specs.Resuming.{AreKept}

-- the texts that are kept, and before the first statement of a run the catalogue
abbrev pub beginning : List (List ℕ) → Catalogue → Listing KeptState
beginning kept c = record { list = kept; rest = record { is_first = true; catalogue = c } }

-- From the texts that are kept, and from the catalogue that they define, it is so.
pub record FromKept (limit : ℕ) (list : List (List ℕ)) (Fact : Listing KeptState → Type 0) : Type 0 where
  pub kept : List (List ℕ)
  pub are : AreKept list kept
  pub catalogue : Catalogue
  pub defines : IsDefinedBy limit kept catalogue
  pub so : Fact (beginning kept catalogue)

-- the whole input was answered, and in the end these texts are kept
abbrev pub AnswersAll : ℕ → Option (List ℕ) → Option (List ℕ) → Option (List ℕ) → Option (List ℕ) → Bool → List (List ℕ) → Listing KeptState → Type 0
AnswersAll input_limit input left contents now refused kept start =
    (last : Listing KeptState) × (last.list ≡ kept) × AnsweredIn (recorded_from keeps start) input_limit input left contents now refused last
