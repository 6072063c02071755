use Rattle.std.proofs.Common.{◌≡◌, true, false, length, take, ap, ◌∙◌, subst, rules}
use Rattle.ded_lex.specs.Pieces.{Whole}
use Rattle.ded_model.specs.declared.command.Language.TheVariants.{One}
use Rattle.ded_model.specs.Command.{command_form}
use Rattle.ded_catalog.specs.State.{catalogue_of}
use Rattle.ded_session.specs.Answered.{reply_form}
use Rattle.ded_session.specs.Replies.{is_refusal}
use Rattle.ded_session.specs.Steps.{Step}
use Rattle.ded_session.proofs.StepLemmas.{read_named, read_plain, read_short}
use Rattle.ded_shared.specs.Parts.{Parts, state_of, AreKept, Notes}
use Rattle.ded_shared.proofs.Noting.{want_outside}
use Rattle.ded_shared.proofs.Outside.{outside_accepted, outside_refused, accepted_kept, refused_kept}
use Rattle.ded_shared.proofs.shared.Shared.work_outside.Goals as goal

pub step_over-reply-requires-clause-plain : goal.step_over-reply-requires-clause-plain
step_over-reply-requires-clause-plain c = read_plain One c.args.bytes.now (command_form c.args.command) c.requires.read

pub step_over-reply-requires-clause-short : goal.step_over-reply-requires-clause-short
step_over-reply-requires-clause-short c = read_short One c.args.bytes.now (command_form c.args.command) c.requires.read

pub step_over-reply-requires-clause-named : goal.step_over-reply-requires-clause-named
step_over-reply-requires-clause-named c = read_named One c.args.bytes.now (command_form c.args.command) c.requires.read

pub returns-then-is_err : goal.returns-then-is_err
returns-then-is_err c =
    let kept : c.note.new.self ≡ c.args.self.now = search rules in
    want_outside c.args.bytes.now c.requires.short (state_of c.args.self.now) (state_of c.note.new.self) (ap state_of kept)

pub returns-then-not-is_refusal : goal.returns-then-not-is_refusal
returns-then-not-is_refusal c =
    let notes : Notes (command_form c.args.command) c.args.self.now c.note.new.self = search rules in
    let accepted : is_refusal (reply_form c.step_over-reply.result) ≡ false = search rules in
    let f : Parts = record { table = c.step_over-reply.new.catalogue; transactions = c.self-2.inside.transactions.items; log = c.self-2.inside.log.items } in
    outside_accepted c.args.self.now c.note.new.self f c.args.bytes.now (command_form c.args.command) c.requires.read (reply_form c.step_over-reply.result)
    notes
    (subst (λ (z : Parts). Step One (catalogue_of z.table) (Whole c.args.bytes.now) (reply_form c.step_over-reply.result) (catalogue_of f.table)) c.self-2.view_is (c.step_over-reply.ensures c.args.bytes.now c.requires.short c.requires.read))
    (ap (λ (z : Parts). z.transactions) c.self-2.view_is) (subst AreKept c.self.view_is c.self.invariant) accepted (ap (λ (z : Parts). z.log) c.self-2.view_is)

pub invariant_of-self : goal.invariant_of-self
invariant_of-self c =
    let notes : Notes (command_form c.args.command) c.args.self.now c.note.new.self = search rules in
    let f : Parts = record { table = c.step_over-reply.new.catalogue; transactions = c.self-2.inside.transactions.items; log = c.self-2.inside.log.items } in
    accepted_kept c.args.self.now c.note.new.self f c.args.bytes.now (command_form c.args.command) c.requires.read (reply_form c.step_over-reply.result)
    notes
    (subst (λ (z : Parts). Step One (catalogue_of z.table) (Whole c.args.bytes.now) (reply_form c.step_over-reply.result) (catalogue_of f.table)) c.self-2.view_is (c.step_over-reply.ensures c.args.bytes.now c.requires.short c.requires.read))
    (ap (λ (z : Parts). z.transactions) c.self-2.view_is) (subst AreKept c.self.view_is c.self.invariant) (ap (λ (z : Parts). z.log) c.self-2.view_is)

pub invariant_of-self-2 : goal.invariant_of-self-2
invariant_of-self-2 c =
    let notes : Notes (command_form c.args.command) c.args.self.now c.note.new.self = search rules in
    let refused : is_refusal (reply_form c.step_over-reply.result) ≡ true = search rules in
    let cut : c.truncate.new.self.items ≡ take (length c.self.inside.log.items) c.self-2.inside.log.items = search rules in
    let s1 : Parts = c.args.self.now in
    let f : Parts = record { table = c.step_over-reply.new.catalogue; transactions = c.self-2.inside.transactions.items; log = c.truncate.new.self.items } in
    refused_kept c.args.self.now c.note.new.self f c.args.bytes.now (command_form c.args.command) c.requires.read (reply_form c.step_over-reply.result)
    notes
    (subst (λ (z : Parts). Step One (catalogue_of z.table) (Whole c.args.bytes.now) (reply_form c.step_over-reply.result) (catalogue_of f.table)) c.self-2.view_is (c.step_over-reply.ensures c.args.bytes.now c.requires.short c.requires.read))
    (ap (λ (z : Parts). z.transactions) c.self-2.view_is) (subst AreKept c.self.view_is c.self.invariant) refused
    (cut ∙ ap (λ (z : Parts). take (length z.log) c.self-2.inside.log.items) c.self.view_is ∙ ap (λ (z : Parts). take (length s1.log) z.log) c.self-2.view_is)

pub returns : goal.returns
returns c =
    let notes : Notes (command_form c.args.command) c.args.self.now c.note.new.self = search rules in
    let refused : is_refusal (reply_form c.step_over-reply.result) ≡ true = search rules in
    let cut : c.truncate.new.self.items ≡ take (length c.self.inside.log.items) c.self-2.inside.log.items = search rules in
    let s1 : Parts = c.args.self.now in
    let f : Parts = record { table = c.step_over-reply.new.catalogue; transactions = c.self-2.inside.transactions.items; log = c.truncate.new.self.items } in
    outside_refused c.args.self.now c.note.new.self f c.args.bytes.now (command_form c.args.command) c.requires.read (reply_form c.step_over-reply.result)
    notes
    (subst (λ (z : Parts). Step One (catalogue_of z.table) (Whole c.args.bytes.now) (reply_form c.step_over-reply.result) (catalogue_of f.table)) c.self-2.view_is (c.step_over-reply.ensures c.args.bytes.now c.requires.short c.requires.read))
    (ap (λ (z : Parts). z.transactions) c.self-2.view_is) refused
    (cut ∙ ap (λ (z : Parts). take (length z.log) c.self-2.inside.log.items) c.self.view_is ∙ ap (λ (z : Parts). take (length s1.log) z.log) c.self-2.view_is)
