use Rattle.std.proofs.Common.{◌≡◌, ◌∙◌, not, ◌&&◌, [], take, sym, subst}
use Rattle.std.specs.Prelude.{if◌then◌else◌}
use Rattle.ded_lex.specs.Pieces.{Whole}
use Rattle.ded_model.specs.declared.command.Language.TheVariants.{One}
use Rattle.ded_model.specs.Command.{command_form}
use Rattle.ded_catalog.specs.State.{catalogue_of}
use Rattle.ded_relation.proofs.Results.{not_err}
use Rattle.ded_shared.specs.Touching.{depends_on_names}
use Rattle.ded_session.specs.Answered.{reply_form}
use Rattle.ded_session.specs.Replies.{is_refusal}
use Rattle.ded_session.specs.Steps.{Step}
use Rattle.ded_session.proofs.StepLemmas.{read_named, read_plain, read_short}
use Rattle.ded_shared.specs.Parts.{Recalls}
use Rattle.ded_shared.specs.Rules.{is_change}
use Rattle.ded_shared.proofs.Remembering.{IsSettled, all_remembered, pieces_further}
use Rattle.ded_shared.proofs.transaction.Transaction.work.Goals as goal

pub step_over-reply-requires-clause-plain : goal.step_over-reply-requires-clause-plain
step_over-reply-requires-clause-plain c = read_plain One c.args.bytes.now (command_form c.args.command) c.requires.read

pub step_over-reply-requires-clause-short : goal.step_over-reply-requires-clause-short
step_over-reply-requires-clause-short c = read_short One c.args.bytes.now (command_form c.args.command) c.requires.read

pub step_over-reply-requires-clause-named : goal.step_over-reply-requires-clause-named
step_over-reply-requires-clause-named c = read_named One c.args.bytes.now (command_form c.args.command) c.requires.read

pub returns-clause-remembers : goal.returns-clause-remembers
returns-clause-remembers c =
    let bytes = c.args.bytes.now in
    let x = command_form c.args.command in
    let start = c.args.self.now in
    let old = c.remember.new.self in
    let new = c.settle.new.self in
    let reply = reply_form c.step_over-reply.result in
    let d = catalogue_of c.step_over-reply.new.catalogue in
    let step : Step One (catalogue_of start.own) (Whole bytes) reply d = subst (λ o. Step One (catalogue_of o) (Whole bytes) reply d) c.remember.ensures.own (c.step_over-reply.ensures c.args.bytes.now c.requires.short c.requires.read) in
    let recalls : Recalls bytes x start old = not_err c.remember.result (Recalls bytes x start old) (sym c.is_err.ensures.value ∙ c.if-is_err.false) c.remember.ensures.remembers in
    let settled : IsSettled reply start old new = record {
      accepted = subst (λ i. new.accepted.items ≡ (if is_refusal reply then take i old.accepted.items else old.accepted.items)) c.extent-extent.ensures.accepted c.settle.ensures.accepted;
      touched = subst (λ i. new.touched.items ≡ (if depends_on_names reply then old.touched.items else take i old.touched.items)) c.extent-extent.ensures.touched c.settle.ensures.touched;
      changed = subst (λ i. new.changed.items ≡ (if is_refusal reply then take i old.changed.items else old.changed.items)) c.extent-extent.ensures.changed c.settle.ensures.changed;
      since = c.settle.ensures.since ∙ c.remember.ensures.since;
    } in
    λ log. all_remembered bytes x log start reply old new d c.formed.ensures c.requires.read step c.remember.ensures.fronts recalls settled

pub returns-clause-pieces : goal.returns-clause-pieces
returns-clause-pieces c =
    let x = command_form c.args.command in
    let reply = reply_form c.step_over-reply.result in
    pieces_further (is_change x && not (is_refusal reply)) c.args.self.now.accepted.items c.settle.new.self.accepted.items c.args.bytes.now c.requires.short (returns-clause-remembers c []).accepted
