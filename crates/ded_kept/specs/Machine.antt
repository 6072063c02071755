-- What a session stands for whose changes are kept.
use Rattle.std.specs.Prelude.{ℕ, List, map, vec_items}
use Rattle.ded_kept.specs.declared.session.KeptSession.{KeptSession}
use Rattle.ded_kept.specs.Answering.{KeptState}
use Rattle.ded_recording.specs.Listings.{Listing}
use Rattle.ded_session.specs.State.{catalogue_in}

-- the catalogue, and whether no statement was read yet
abbrev pub state_of : KeptSession → KeptState
state_of s = record { is_first = s.is_first; catalogue = catalogue_in s.session }

-- the texts that it lists
abbrev pub listed_in : KeptSession → List (List ℕ)
listed_in s = map (λ text. text.items) s.listed.items

-- both
abbrev pub listing_of : KeptSession → Listing KeptState
listing_of s = record { list = listed_in s; rest = state_of s }
