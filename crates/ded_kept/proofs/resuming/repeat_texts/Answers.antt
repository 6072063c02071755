use Rattle.std.proofs.Common.{◌≡◌, ◌∷◌, ◌++◌, [], ℕ, List, Some, None, Bool, if◌then◌else◌, slice_get, take, sym, ap, ◌∙◌, subst}
use Rattle.ded_session.specs.State.{catalogue_in}
use Rattle.ded_recording.proofs.Settled.{follows_on}
use Rattle.ded_kept.specs.Defining.{IsDefinedBy}
use Rattle.ded_kept.proofs.Journalled.{settled_read, follows_read, outcomes_on, defines_next, defines_all}
use Rattle.ded_kept.proofs.resuming.repeat_texts.Goals as goal

pub loop-at-preserved : goal.loop-at-preserved
loop-at-preserved g c =
    let inv = c.loop-at.invariant in
    let list = c.args.journal.now.now in
    let text = c.read-in-loop-at.new.text.items in
    let same = c.in_ok-read-2.ensures.same in
    record {
      settled = settled_read g.S.Store.recovers g.S.Store.is_shielded list _ _ inv.settled same c.read-in-loop-at.ensures.durable;
      crash = outcomes_on g.S.Store.recovers g.S.Store.is_shielded _ _ _ inv.crash c.read-in-loop-at.ensures.crash;
      follows = follows_on g.S.Store.recovers g.S.Store.is_shielded _ _ _ inv.follows (follows_read g.S.Store.recovers g.S.Store.is_shielded _ _ same c.read-in-loop-at.ensures.crash);
      defines = λ honest limit d.
          let before = same.was_clean honest in
          defines_next limit list c.loop-at.at text (catalogue_in c.repeat.new.self.session)
          (ap (λ (l : List (List ℕ)). slice_get l c.loop-at.at) (sym (inv.settled.now before)) ∙ c.in_ok-read-2.ensures.ok honest ∙ ap (λ (b : Bool). if b then Some text else None) c.if-not-branch-2.false)
          (subst (λ (t : List ℕ). IsDefinedBy limit (take c.loop-at.at list ++ t ∷ []) (catalogue_in c.repeat.new.self.session)) c.as_slice-else-not-branch-2.ensures.value
          (c.repeat.ensures.defines c.if-not-repeat.false limit (take c.loop-at.at list) (inv.defines before limit d)));
      unlisted = c.repeat.ensures.unlisted ∙ inv.unlisted;
      first = c.repeat.ensures.first ∙ inv.first;
    }

pub returns-clause-defines : goal.returns-clause-defines
returns-clause-defines g c = λ honest limit d.
    defines_all limit c.args.journal.now.now c.len-count.result c.loop-at.at (catalogue_in c.loop-at.session.session)
    (c.len-count.ensures (c.requires.settled.is_open (c.loop-at.invariant.follows.was_honest honest))) c.loop-at-test.false (c.loop-at.invariant.defines honest limit d)
