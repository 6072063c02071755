-- A command is refused as the names say, and else carried out.
use Rattle.std.proofs.Common.{◌≢◌, refl, subst}
use Rattle.ded_model.specs.declared.command.Refusal.TheVariants.{Memory}
use Rattle.ded_model.specs.Catalogue.{Catalogue}
use Rattle.ded_model.specs.Command.{command_form}
use Rattle.ded_database.specs.State.{catalogue_at}
use Rattle.ded_sorts.specs.Checks.{HasNoCause, IsLeastCause}
use Rattle.ded_resolve.specs.Resolved.{IsResolved}
use Rattle.ded_resolve.specs.Storing.{IsStorable}
use Rattle.ded_session.specs.Answered.{reply_form}
use Rattle.ded_session.proofs.Carried.{carried, named}
use Rattle.ded_session.proofs.Upheld.{same_lists, upholds_refused}
use Rattle.ded_session.proofs.command.answer.Goals as goal

pub carry_out-requires : goal.carry_out-requires
carry_out-requires c = record {
  written = command_form c.args.command;
  resolved = subst (λ (k : Catalogue). IsResolved k (command_form c.args.command) c.in-Ok.checked) c.catalogue.ensures c.in-Ok.ensures.resolved;
  accepted = subst (λ (k : Catalogue). HasNoCause k (command_form c.args.command)) c.catalogue.ensures c.in-Ok.ensures.accepted;
  storable = subst (λ (k : Catalogue). IsStorable k c.in-Ok.checked) c.catalogue.ensures c.in-Ok.ensures.stored;
  plain = c.requires.plain;
  short = c.requires.short;
  named = c.requires.named;
}

pub returns-in-Ok-clause-answers : goal.returns-in-Ok-clause-answers
returns-in-Ok-clause-answers c =
    let x = command_form c.args.command in
    let accepted = subst (λ (k : Catalogue). HasNoCause k x) c.catalogue.ensures c.in-Ok.ensures.accepted in
    let resolved = subst (λ (k : Catalogue). IsResolved k x c.in-Ok.checked) c.catalogue.ensures c.in-Ok.ensures.resolved in
    carried (catalogue_at c.args.database.now) (catalogue_at c.carry_out.new.database) x (reply_form c.carry_out.result) accepted (c.carry_out.ensures.carries x resolved accepted)

pub returns-in-Err-clause-answers : goal.returns-in-Err-clause-answers
returns-in-Err-clause-answers c =
    let x = command_form c.args.command in (
      named c.in-Err.refusal (catalogue_at c.args.database.now) x (subst (λ (k : Catalogue). c.in-Err.refusal ≢ Memory → IsLeastCause c.in-Err.refusal k x) c.catalogue.ensures c.in-Err.ensures.refused),
      refl,
    )

pub returns-in-Ok-clause-upholds : goal.returns-in-Ok-clause-upholds
returns-in-Ok-clause-upholds c =
    let x = command_form c.args.command in
    c.carry_out.ensures.upholds x (subst (λ (k : Catalogue). IsResolved k x c.in-Ok.checked) c.catalogue.ensures c.in-Ok.ensures.resolved) (subst (λ (k : Catalogue). HasNoCause k x) c.catalogue.ensures c.in-Ok.ensures.accepted)

pub returns-in-Err-clause-upholds : goal.returns-in-Err-clause-upholds
returns-in-Err-clause-upholds c = upholds_refused (command_form c.args.command) c.in-Err.refusal c.args.database.now c.args.database.now (same_lists c.args.database.now c.args.database.now refl)
