-- What there is to be drawn of replies, one after another.
use Rattle.std.proofs.Common.{◌≡◌, ℕ, ◌+◌, ◌<◌, ◌≤◌, List, [], ◌++◌, length, drop, get_or, refl, sym, ap, ◌∙◌, subst, append_assoc}
use Rattle.std.specs.Prelude.{map}
use Rattle.std.proofs.lemmas.List.{append-nil, drop_all}
use Rattle.ded_print.proofs.Plans.{left_after}
use Rattle.ded_session.specs.declared.reply.Reply.{Reply}
use Rattle.ded_session.specs.Answered.{reply_form}
use Rattle.ded_figures.specs.declared.axes.Look.{Look}
use Rattle.ded_figures.specs.declared.sight.Sight.{Sight}
use Rattle.ded_drawing.specs.Sightings.{AddsSights, AreAllSights}

-- the sights of those that are left complete those of all
abbrev pub Goes : Look → List Reply → List Reply → List Sight → Type 0
Goes look whole left found = (more : List Sight) → AreAllSights look (map reply_form left) more → AreAllSights look (map reply_form whole) (found ++ more)

pub goes_first : (look : Look) (whole : List Reply) → Goes look whole whole []
goes_first look whole more a = a

pub goes_next : (look : Look) (whole rs : List Reply) (i : ℕ) (r : Reply) (found next : List Sight) → i < length rs → r ≡ get_or rs i r → Goes look whole (drop i rs) found → AddsSights look (reply_form r) found next → Goes look whole (drop (i + 1) rs) next
goes_next look whole rs i r found next there is goes a = λ more b.
    subst (AreAllSights look (map reply_form whole)) (sym (append_assoc found a.added more) ∙ ap (λ (l : List Sight). l ++ more) (sym a.is))
    (subst (λ (l : List Reply). Goes look whole l found) (left_after rs i r there is) goes (a.added ++ more) (a.added, more, refl, a.sights, b))

pub goes_last : (look : Look) (whole rs : List Reply) (i : ℕ) (found : List Sight) → length rs ≤ i → Goes look whole (drop i rs) found → AreAllSights look (map reply_form whole) found
goes_last look whole rs i found end goes =
    subst (AreAllSights look (map reply_form whole)) (append-nil found) (goes [] (subst (λ (l : List Reply). AreAllSights look (map reply_form l) []) (sym (drop_all i rs end)) refl))
