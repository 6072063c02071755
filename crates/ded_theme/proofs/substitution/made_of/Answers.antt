use Rattle.std.proofs.Common.{ap, ◌∙◌}
use Rattle.ded_model.specs.Row.{theme_holds}
use Rattle.ded_theme.specs.Sources.{at, quoted, texts}
use Rattle.ded_theme.specs.Replacing.{made_holds}
use Rattle.ded_theme.proofs.Comparing.{compares-swap, text_atom-holds, text_atom-sources, slots_made-holds, slots_made-mentions}
use Rattle.ded_model.proofs.Rows.{or_left}
use Rattle.ded_theme.proofs.substitution.made_of.Goals as goal

pub returns-in_ok-against-in-At-Quoted-clause-holds : goal.returns-in_ok-against-in-At-Quoted-clause-holds
returns-in_ok-against-in-At-Quoted-clause-holds c =
    let w = c.in-At-Quoted in
    λ p. rw (w.is-0, w.is-1) (ap (λ a. theme_holds a p) c.in_ok-against-in-At-Quoted.ensures ∙ text_atom-holds c.args.equal w.slot w.text.now p)

pub returns-in_ok-against-in-At-Quoted-clause-slots : goal.returns-in_ok-against-in-At-Quoted-clause-slots
returns-in_ok-against-in-At-Quoted-clause-slots c =
    let w = c.in-At-Quoted in
    λ t h. rw (w.is-0, w.is-1) (or_left _ _ (text_atom-sources c.args.equal w.slot w.text.now _ t c.in_ok-against-in-At-Quoted.ensures h))

pub returns-in_ok-against-in-Quoted-At-clause-holds : goal.returns-in_ok-against-in-Quoted-At-clause-holds
returns-in_ok-against-in-Quoted-At-clause-holds c =
    let w = c.in-Quoted-At in
    λ p. rw (w.is-0, w.is-1)
    (ap (λ a. theme_holds a p) c.in_ok-against-in-Quoted-At.ensures ∙ text_atom-holds c.args.equal w.slot w.text.now p
    ∙ compares-swap c.args.equal (at w.slot) (quoted w.text.now) (texts p))

pub returns-in_ok-against-in-Quoted-At-clause-slots : goal.returns-in_ok-against-in-Quoted-At-clause-slots
returns-in_ok-against-in-Quoted-At-clause-slots c =
    let w = c.in-Quoted-At in
    λ t h. rw (w.is-0, w.is-1) (text_atom-sources c.args.equal w.slot w.text.now _ t c.in_ok-against-in-Quoted-At.ensures h)

pub returns-in-At-At-clause-holds : goal.returns-in-At-At-clause-holds
returns-in-At-At-clause-holds c =
    let w = c.in-At-At in
    λ p. rw (w.is-0, w.is-1) (ap (λ m. made_holds m p) c.made_of_slots.ensures ∙ slots_made-holds c.args.equal w.first w.second p)

pub returns-in-At-At-clause-slots : goal.returns-in-At-At-clause-slots
returns-in-At-At-clause-slots c =
    let w = c.in-At-At in
    λ t h. rw (w.is-0, w.is-1) (slots_made-mentions c.args.equal w.first w.second t (rw c.made_of_slots.ensures at h))
