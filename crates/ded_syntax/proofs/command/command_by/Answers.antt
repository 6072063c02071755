use Rattle.std.proofs.Common.{◌≡◌, ◌≢◌, ◌≤◌, ℕ, List, sym, subst}
use Rattle.ded_num.proofs.Tests.{if_ok_by, if_err_by}
use Rattle.ded_model.specs.declared.command.Language.{Language}
use Rattle.ded_model.specs.declared.command.Refusal.{Refusal}
use Rattle.ded_model.specs.declared.command.Refusal.TheVariants.{Deep, Memory}
use Rattle.ded_model.specs.declared.command.Command.{Command}
use Rattle.ded_model.specs.Command.{command_form}
use Rattle.ded_terminals.specs.Items.{left, AreSymbols}
use Rattle.ded_syntax.specs.DraftViews.{seen_draft}
use Rattle.ded_syntax.specs.Meaning.{Means, MeansDeep}
use Rattle.ded_syntax.specs.Spelling.{IsRead, IsLeastIn}
use Rattle.ded_syntax.proofs.Refused.{not_drafted, is_deep, is_read}
use Rattle.ded_syntax.proofs.command.command_by.Goals as goal

pub returns-in-Err-NotRead-clause-refused : goal.returns-in-Err-NotRead-clause-refused
returns-in-Err-NotRead-clause-refused c = λ other language bytes are. not_drafted language bytes (left c.args.items) are (c.in-Err-NotRead.ensures.unread c.in-Err-NotRead.field-0-is)

pub long_refusal-requires : goal.long_refusal-requires
long_refusal-requires c = record { read = c.in-Ok.ensures.read; scanned = c.in-Ok.ensures.scanned }

pub returns-in-Some-clause-refused : goal.returns-in-Some-clause-refused
returns-in-Some-clause-refused c = λ other. c.in-Some.ensures.some

pub returns-in-None-clause-read : goal.returns-in-None-clause-read
returns-in-None-clause-read c =
    let short = c.in-None.ensures.none in
    if_ok_by c.command_of.result
    (λ (x : Command). (depth : ℕ) × Means (seen_draft c.in-Ok.draft) (command_form x) depth × (depth ≤ 64))
    (λ (x : Command). (language : Language) (bytes : List ℕ) → AreSymbols language bytes (left c.args.items) → IsRead language bytes (command_form x))
    (λ x m language bytes are.
    is_read language bytes (left c.args.items) are (seen_draft c.in-Ok.draft) c.in-Ok.ensures.read c.in-Ok.ensures.scanned short.names short.literals short.marks short.rows (command_form x) m.0 m.1 m.2)
    c.command_of.ensures.made

pub returns-in-None-clause-refused : goal.returns-in-None-clause-refused
returns-in-None-clause-refused c =
    let short = c.in-None.ensures.none in
    if_err_by c.command_of.result
    (λ (r : Refusal). r ≢ Memory → (r ≡ Deep) × MeansDeep (seen_draft c.in-Ok.draft))
    (λ (r : Refusal). r ≢ Memory → (language : Language) (bytes : List ℕ) → AreSymbols language bytes (left c.args.items) → IsLeastIn r language bytes)
    (λ r h other language bytes are.
    let m = h other in
    subst (λ (q : Refusal). IsLeastIn q language bytes) (sym m.0)
    (is_deep language bytes (left c.args.items) are (seen_draft c.in-Ok.draft) c.in-Ok.ensures.read c.in-Ok.ensures.scanned short.names short.literals short.marks short.rows m.1.0 m.1.1 m.1.2 m.1.3))
    c.command_of.ensures.refused
