-- Each command by slots is what the names accept, and is carried out as it is written.
use Rattle.std.proofs.Common.{◌≡◌, true, refl, sym, subst}
use Rattle.std.specs.Prelude.{IfOk, IsErrOf}
use Rattle.ded_model.specs.declared.memory.Refused.TheVariants.{Wide}
use Rattle.ded_model.specs.Catalogue.{Catalogue}
use Rattle.ded_model.specs.Command.{CommandForm, ask, query, show, box_of, explain, dump, disjoint, verify}
use Rattle.ded_model.specs.Entries.{known}
use Rattle.ded_sorts.specs.Causes.{is_relation_with}
use Rattle.ded_catalog.specs.State.{catalogue_of}
use Rattle.ded_database.specs.State.{catalogue_at}
use Rattle.ded_session.specs.Answered.{reply_form}
use Rattle.ded_session.specs.Carrying.{Carries}
use Rattle.ded_session.specs.Keeping.{Upholds}
use Rattle.ded_session.specs.Replies.{done}
use Rattle.ded_session.specs.Steps.{Does, MayBeWide}
use Rattle.ded_session.proofs.Accepted.{ready_relation, ready_insert, ready_delete, ready_drop, ready_show, ready_view, ready_box, ready_keep, ready_disjoint, ready_verify, written_relation, written_insert, written_as_insert, written_delete, written_drop, written_show, written_view, written_box, written_keep, written_header, written_dump, written_disjoint, written_verify}
use Rattle.ded_session.proofs.Asking.{ready_ask, ready_query, ready_explain, written_ask, written_query, written_explain}
use Rattle.ded_session.proofs.Upheld.{same_lists}
use Rattle.ded_session.proofs.command.carry_out.Goals as goal

pub define-requires : goal.define-requires
define-requires c =
    let r = ready_relation (catalogue_at c.args.database.now) c.args.command c.requires c.in-Relation.name c.in-Relation.heading c.in-Relation.is in
    record { new = r.0; few = r.1 }

pub insert-requires : goal.insert-requires
insert-requires c =
    let r = ready_insert (catalogue_at c.args.database.now) c.args.command c.requires c.in-Insert.name c.in-Insert.tuple c.in-Insert.is in
    record { relation = r.0; over = r.1; short = r.2 }

pub delete-requires : goal.delete-requires
delete-requires c = ready_delete (catalogue_at c.args.database.now) c.args.command c.requires c.in-Delete.name c.in-Delete.number c.in-Delete.is

pub drop_name-requires : goal.drop_name-requires
drop_name-requires c =
    let r = ready_drop (catalogue_at c.args.database.now) c.args.command c.requires c.in-Drop.name c.in-Drop.is in
    record { defined = r.0; unused = r.1 }

pub define_view-requires : goal.define_view-requires
define_view-requires c =
    let r = ready_view (catalogue_at c.args.database.now) c.args.command c.requires c.in-View.name c.in-View.heading c.in-View.formula c.in-View.goal c.in-View.is in
    record { new = r.0; accepted = r.1; level = r.2; goal = r.3; plain = r.4; short = r.5 }

pub show-requires : goal.show-requires
show-requires c =
    subst (λ (k : Catalogue). is_relation_with (known k c.in-Show.name) ≡ true) (sym c.catalogue.ensures) (ready_show (catalogue_at c.args.database.now) c.args.command c.requires c.in-Show.name c.in-Show.is)

pub bounds-requires : goal.bounds-requires
bounds-requires c =
    subst (λ (k : Catalogue). is_relation_with (known k c.in-BoxOf.name) ≡ true) (sym c.catalogue-in-BoxOf.ensures) (ready_box (catalogue_at c.args.database.now) c.args.command c.requires c.in-BoxOf.name c.in-BoxOf.is)

pub truth-requires : goal.truth-requires
truth-requires c = ready_ask (catalogue_at c.args.database.now) c.args.command c.in-Ask.goal c.requires c.in-Ask.is

pub tuples-requires : goal.tuples-requires
tuples-requires c = ready_query (catalogue_at c.args.database.now) c.args.command c.in-Query.heading c.in-Query.goal c.requires c.in-Query.is

pub steps-requires : goal.steps-requires
steps-requires c = ready_explain (catalogue_at c.args.database.now) c.args.command c.in-Explain.field-0 c.in-Explain.goal c.requires c.in-Explain.is

pub returns-in-Relation-clause-carries : goal.returns-in-Relation-clause-carries
returns-in-Relation-clause-carries c = λ written resolved accepted.
    subst (λ (x : CommandForm). Carries x (catalogue_at c.args.database.now) (reply_form c.define.result) (catalogue_at c.define.new.database)) (sym (written_relation (catalogue_at c.args.database.now) c.args.command c.requires c.in-Relation.name c.in-Relation.heading c.in-Relation.is written resolved)) c.define.ensures.carries

pub returns-in-Insert-clause-carries : goal.returns-in-Insert-clause-carries
returns-in-Insert-clause-carries c = λ written resolved accepted.
    written_insert (catalogue_at c.args.database.now) (catalogue_at c.insert.new.database) (reply_form c.insert.result) c.args.command c.in-Insert.name c.in-Insert.tuple c.in-Insert.is c.insert.ensures.carries written resolved

pub returns-in-Delete-clause-carries : goal.returns-in-Delete-clause-carries
returns-in-Delete-clause-carries c = λ written resolved accepted.
    subst (λ (x : CommandForm). Carries x (catalogue_at c.args.database.now) (reply_form c.delete.result) (catalogue_at c.delete.new.database)) (sym (written_delete (catalogue_at c.args.database.now) c.args.command c.requires c.in-Delete.name c.in-Delete.number c.in-Delete.is written resolved)) c.delete.ensures.carries

pub returns-in-Drop-clause-carries : goal.returns-in-Drop-clause-carries
returns-in-Drop-clause-carries c = λ written resolved accepted.
    subst (λ (x : CommandForm). Carries x (catalogue_at c.args.database.now) (reply_form c.drop_name.result) (catalogue_at c.drop_name.new.database)) (sym (written_drop (catalogue_at c.args.database.now) c.args.command c.requires c.in-Drop.name c.in-Drop.is written resolved)) c.drop_name.ensures.carries

pub returns-in-View-clause-carries : goal.returns-in-View-clause-carries
returns-in-View-clause-carries c = λ written resolved accepted.
    subst (λ (x : CommandForm). Carries x (catalogue_at c.args.database.now) (reply_form c.define_view.result) (catalogue_at c.define_view.new.database)) (sym (written_view (catalogue_at c.args.database.now) c.args.command c.requires c.in-View.name c.in-View.heading c.in-View.formula c.in-View.goal c.in-View.is written resolved)) c.define_view.ensures.carries

pub returns-in-Show-clause-carries : goal.returns-in-Show-clause-carries
returns-in-Show-clause-carries c = λ written resolved accepted.
    subst (λ (x : CommandForm). Carries x (catalogue_at c.args.database.now) (reply_form c.show.result) (catalogue_at c.args.database.now)) (sym (written_show (catalogue_at c.args.database.now) c.args.command c.requires c.in-Show.name c.in-Show.is written resolved))
    (subst (λ (k : Catalogue). Carries (show c.in-Show.name) k (reply_form c.show.result) k) c.catalogue.ensures c.show.ensures)

pub returns-in-BoxOf-clause-carries : goal.returns-in-BoxOf-clause-carries
returns-in-BoxOf-clause-carries c = λ written resolved accepted.
    subst (λ (x : CommandForm). Carries x (catalogue_at c.args.database.now) (reply_form c.reply_of-in-BoxOf.result) (catalogue_at c.args.database.now)) (sym (written_box (catalogue_at c.args.database.now) c.args.command c.requires c.in-BoxOf.name c.in-BoxOf.is written resolved))
    (subst (λ (k : Catalogue). Carries (box_of c.in-BoxOf.name) k (reply_form c.reply_of-in-BoxOf.result) k) c.catalogue-in-BoxOf.ensures
    (c.reply_of-in-BoxOf.ensures (box_of c.in-BoxOf.name) (catalogue_of c.catalogue-in-BoxOf.result.now) refl c.bounds.ensures.does c.bounds.ensures.wide))

pub returns-in-Ask-clause-carries : goal.returns-in-Ask-clause-carries
returns-in-Ask-clause-carries c = λ written resolved accepted.
    let catalogue = catalogue_at c.args.database.now in
    let a = written_ask catalogue c.args.command c.in-Ask.goal c.in-Ask.is written resolved accepted in
    subst (λ d. Carries written catalogue (reply_form c.reply_of.result) (catalogue_at d)) (sym c.truth.ensures.same)
    (subst (λ (x : CommandForm). Carries x catalogue (reply_form c.reply_of.result) catalogue) (sym a.is)
    (c.reply_of.ensures (ask a.formula) catalogue refl (c.truth.ensures.does a.formula a.question) (c.truth.ensures.wide a.formula a.question)))

pub returns-in-Query-clause-carries : goal.returns-in-Query-clause-carries
returns-in-Query-clause-carries c = λ written resolved accepted.
    let catalogue = catalogue_at c.args.database.now in
    let a = written_query catalogue c.args.command c.in-Query.heading c.in-Query.goal c.in-Query.is written resolved accepted in
    subst (λ d. Carries written catalogue (reply_form c.reply_of-in-Query.result) (catalogue_at d)) (sym c.tuples.ensures.same)
    (subst (λ (x : CommandForm). Carries x catalogue (reply_form c.reply_of-in-Query.result) catalogue) (sym a.is)
    (c.reply_of-in-Query.ensures (query c.in-Query.heading a.formula) catalogue refl (c.tuples.ensures.does a.formula a.question) (c.tuples.ensures.wide a.formula a.question)))

pub returns-in-Explain-clause-carries : goal.returns-in-Explain-clause-carries
returns-in-Explain-clause-carries c = λ written resolved accepted.
    let catalogue = catalogue_at c.args.database.now in
    let h = c.in-Explain.field-0 in
    let a = written_explain catalogue c.args.command h c.in-Explain.goal c.in-Explain.is written resolved accepted in
    subst (λ (x : CommandForm). Carries x catalogue (reply_form c.reply_of-in-Explain.result) catalogue) (sym a.is)
    (c.reply_of-in-Explain.ensures (explain h a.formula) catalogue refl (c.steps.ensures.does catalogue h a.formula a.question) (λ e. c.steps.ensures.wide e))

pub keep-requires : goal.keep-requires
keep-requires c = ready_keep (catalogue_at c.args.database.now) c.args.command c.requires c.in-Keep.name c.in-Keep.is

pub returns-clause-carries : goal.returns-clause-carries
returns-clause-carries c = λ written resolved accepted.
    subst (λ (x : CommandForm). Carries x (catalogue_at c.args.database.now) (reply_form c.keep.result) (catalogue_at c.keep.new.database)) (sym (written_keep (catalogue_at c.args.database.now) c.args.command c.requires c.in-Keep.name c.in-Keep.is written resolved)) c.keep.ensures.carries

-- ---- marks and lists

pub returns-in-Relation-clause-upholds : goal.returns-in-Relation-clause-upholds
returns-in-Relation-clause-upholds c = λ written resolved accepted.
    subst (λ (x : CommandForm). Upholds x (reply_form c.define.result) c.args.database.now c.define.new.database) (sym (written_relation (catalogue_at c.args.database.now) c.args.command c.requires c.in-Relation.name c.in-Relation.heading c.in-Relation.is written resolved)) c.define.ensures.upholds

pub returns-in-Insert-clause-upholds : goal.returns-in-Insert-clause-upholds
returns-in-Insert-clause-upholds c = λ written resolved accepted.
    written_as_insert (catalogue_at c.args.database.now) c.args.command c.in-Insert.name c.in-Insert.tuple c.in-Insert.is (λ x. Upholds x (reply_form c.insert.result) c.args.database.now c.insert.new.database) c.insert.ensures.upholds written resolved

pub returns-in-Delete-clause-upholds : goal.returns-in-Delete-clause-upholds
returns-in-Delete-clause-upholds c = λ written resolved accepted.
    subst (λ (x : CommandForm). Upholds x (reply_form c.delete.result) c.args.database.now c.delete.new.database) (sym (written_delete (catalogue_at c.args.database.now) c.args.command c.requires c.in-Delete.name c.in-Delete.number c.in-Delete.is written resolved)) c.delete.ensures.upholds

pub returns-in-Drop-clause-upholds : goal.returns-in-Drop-clause-upholds
returns-in-Drop-clause-upholds c = λ written resolved accepted.
    subst (λ (x : CommandForm). Upholds x (reply_form c.drop_name.result) c.args.database.now c.drop_name.new.database) (sym (written_drop (catalogue_at c.args.database.now) c.args.command c.requires c.in-Drop.name c.in-Drop.is written resolved)) c.drop_name.ensures.upholds

pub returns-in-View-clause-upholds : goal.returns-in-View-clause-upholds
returns-in-View-clause-upholds c = λ written resolved accepted.
    subst (λ (x : CommandForm). Upholds x (reply_form c.define_view.result) c.args.database.now c.define_view.new.database) (sym (written_view (catalogue_at c.args.database.now) c.args.command c.requires c.in-View.name c.in-View.heading c.in-View.formula c.in-View.goal c.in-View.is written resolved)) c.define_view.ensures.upholds

pub returns-clause-upholds : goal.returns-clause-upholds
returns-clause-upholds c = λ written resolved accepted.
    subst (λ (x : CommandForm). Upholds x (reply_form c.keep.result) c.args.database.now c.keep.new.database) (sym (written_keep (catalogue_at c.args.database.now) c.args.command c.requires c.in-Keep.name c.in-Keep.is written resolved)) c.keep.ensures.upholds

pub returns-in-Show-clause-upholds : goal.returns-in-Show-clause-upholds
returns-in-Show-clause-upholds c = λ written resolved accepted.
    subst (λ (x : CommandForm). Upholds x (reply_form c.show.result) c.args.database.now c.args.database.now) (sym (written_show (catalogue_at c.args.database.now) c.args.command c.requires c.in-Show.name c.in-Show.is written resolved)) (same_lists c.args.database.now c.args.database.now refl)

pub returns-in-BoxOf-clause-upholds : goal.returns-in-BoxOf-clause-upholds
returns-in-BoxOf-clause-upholds c = λ written resolved accepted.
    subst (λ (x : CommandForm). Upholds x (reply_form c.reply_of-in-BoxOf.result) c.args.database.now c.args.database.now) (sym (written_box (catalogue_at c.args.database.now) c.args.command c.requires c.in-BoxOf.name c.in-BoxOf.is written resolved)) (same_lists c.args.database.now c.args.database.now refl)

pub returns-in-Ask-clause-upholds : goal.returns-in-Ask-clause-upholds
returns-in-Ask-clause-upholds c = λ written resolved accepted.
    let a = written_ask (catalogue_at c.args.database.now) c.args.command c.in-Ask.goal c.in-Ask.is written resolved accepted in
    subst (λ (x : CommandForm). Upholds x (reply_form c.reply_of.result) c.args.database.now c.truth.new.database) (sym a.is) (same_lists c.args.database.now c.truth.new.database c.truth.ensures.same)

pub returns-in-Query-clause-upholds : goal.returns-in-Query-clause-upholds
returns-in-Query-clause-upholds c = λ written resolved accepted.
    let a = written_query (catalogue_at c.args.database.now) c.args.command c.in-Query.heading c.in-Query.goal c.in-Query.is written resolved accepted in
    subst (λ (x : CommandForm). Upholds x (reply_form c.reply_of-in-Query.result) c.args.database.now c.tuples.new.database) (sym a.is) (same_lists c.args.database.now c.tuples.new.database c.tuples.ensures.same)

pub returns-in-Explain-clause-upholds : goal.returns-in-Explain-clause-upholds
returns-in-Explain-clause-upholds c = λ written resolved accepted.
    let a = written_explain (catalogue_at c.args.database.now) c.args.command c.in-Explain.field-0 c.in-Explain.goal c.in-Explain.is written resolved accepted in
    subst (λ (x : CommandForm). Upholds x (reply_form c.reply_of-in-Explain.result) c.args.database.now c.args.database.now) (sym a.is) (same_lists c.args.database.now c.args.database.now refl)

pub returns-in-Header-clause-carries : goal.returns-in-Header-clause-carries
returns-in-Header-clause-carries c = λ written resolved accepted.
    let cat = catalogue_at c.args.database.now in
    subst (λ (x : CommandForm). Carries x cat done cat) (sym (written_header cat c.args.command c.requires c.in-Header.is written resolved)) (refl, refl)

pub returns-in-Header-clause-upholds : goal.returns-in-Header-clause-upholds
returns-in-Header-clause-upholds c = λ written resolved accepted.
    subst (λ (x : CommandForm). Upholds x done c.args.database.now c.args.database.now) (sym (written_header (catalogue_at c.args.database.now) c.args.command c.requires c.in-Header.is written resolved)) (same_lists c.args.database.now c.args.database.now refl)

pub returns-in-Dump-clause-carries : goal.returns-in-Dump-clause-carries
returns-in-Dump-clause-carries c = λ written resolved accepted.
    let cat = catalogue_at c.args.database.now in
    subst (λ (x : CommandForm). Carries x cat (reply_form c.dump.result) cat) (sym (written_dump cat c.args.command c.requires c.in-Dump.is written resolved))
    (subst (λ (k : Catalogue). Carries dump k (reply_form c.dump.result) k) c.catalogue-in-Dump.ensures c.dump.ensures)

pub returns-in-Dump-clause-upholds : goal.returns-in-Dump-clause-upholds
returns-in-Dump-clause-upholds c = λ written resolved accepted.
    subst (λ (x : CommandForm). Upholds x (reply_form c.dump.result) c.args.database.now c.args.database.now) (sym (written_dump (catalogue_at c.args.database.now) c.args.command c.requires c.in-Dump.is written resolved)) (same_lists c.args.database.now c.args.database.now refl)

pub returns-in-Disjoint-clause-carries : goal.returns-in-Disjoint-clause-carries
returns-in-Disjoint-clause-carries c = λ written resolved accepted.
    let cat = catalogue_at c.args.database.now in
    let x = disjoint c.in-Disjoint.first c.in-Disjoint.second in
    subst (λ (y : CommandForm). Carries y cat (reply_form c.reply_of-in-Disjoint.result) cat) (sym (written_disjoint cat c.args.command c.requires c.in-Disjoint.first c.in-Disjoint.second c.in-Disjoint.is written resolved))
    (subst (λ (k : Catalogue). Carries x k (reply_form c.reply_of-in-Disjoint.result) k) c.catalogue-in-Disjoint.ensures
    (c.reply_of-in-Disjoint.ensures x (catalogue_of c.catalogue-in-Disjoint.result.now) refl c.disjoint.ensures.does c.disjoint.ensures.wide))

pub returns-in-Disjoint-clause-upholds : goal.returns-in-Disjoint-clause-upholds
returns-in-Disjoint-clause-upholds c = λ written resolved accepted.
    subst (λ (x : CommandForm). Upholds x (reply_form c.reply_of-in-Disjoint.result) c.args.database.now c.args.database.now)
    (sym (written_disjoint (catalogue_at c.args.database.now) c.args.command c.requires c.in-Disjoint.first c.in-Disjoint.second c.in-Disjoint.is written resolved)) (same_lists c.args.database.now c.args.database.now refl)

pub returns-in-Verify-clause-carries : goal.returns-in-Verify-clause-carries
returns-in-Verify-clause-carries c = λ written resolved accepted.
    let cat = catalogue_at c.args.database.now in
    let x = verify c.in-Verify.first c.in-Verify.second c.in-Verify.entries.items in
    let there = catalogue_of c.catalogue-in-Verify.result.now in
    subst (λ (y : CommandForm). Carries y cat (reply_form c.reply_of-in-Verify.result) cat) (sym (written_verify cat c.args.command c.requires c.in-Verify.first c.in-Verify.second c.in-Verify.entries c.in-Verify.is written resolved))
    (subst (λ (k : Catalogue). Carries x k (reply_form c.reply_of-in-Verify.result) k) c.catalogue-in-Verify.ensures
    (c.reply_of-in-Verify.ensures x there refl
    (subst (λ es. IfOk c.verified.result (λ r. Does (verify c.in-Verify.first c.in-Verify.second es) there (reply_form r) there)) c.deref.ensures.value c.verified.ensures.does)
    (subst (λ es. IsErrOf c.verified.result Wide → MayBeWide (verify c.in-Verify.first c.in-Verify.second es) there) c.deref.ensures.value c.verified.ensures.wide)))

pub returns-in-Verify-clause-upholds : goal.returns-in-Verify-clause-upholds
returns-in-Verify-clause-upholds c = λ written resolved accepted.
    subst (λ (x : CommandForm). Upholds x (reply_form c.reply_of-in-Verify.result) c.args.database.now c.args.database.now)
    (sym (written_verify (catalogue_at c.args.database.now) c.args.command c.requires c.in-Verify.first c.in-Verify.second c.in-Verify.entries c.in-Verify.is written resolved)) (same_lists c.args.database.now c.args.database.now refl)

pub disjoint-requires-clause-first : goal.disjoint-requires-clause-first
disjoint-requires-clause-first c =
    subst (λ (k : Catalogue). is_relation_with (known k c.in-Disjoint.first) ≡ true) (sym c.catalogue-in-Disjoint.ensures) (ready_disjoint (catalogue_at c.args.database.now) c.args.command c.requires c.in-Disjoint.first c.in-Disjoint.second c.in-Disjoint.is).0

pub disjoint-requires-clause-second : goal.disjoint-requires-clause-second
disjoint-requires-clause-second c =
    subst (λ (k : Catalogue). is_relation_with (known k c.in-Disjoint.second) ≡ true) (sym c.catalogue-in-Disjoint.ensures) (ready_disjoint (catalogue_at c.args.database.now) c.args.command c.requires c.in-Disjoint.first c.in-Disjoint.second c.in-Disjoint.is).1

pub verified-requires-clause-first : goal.verified-requires-clause-first
verified-requires-clause-first c =
    subst (λ (k : Catalogue). is_relation_with (known k c.in-Verify.first) ≡ true) (sym c.catalogue-in-Verify.ensures) (ready_verify (catalogue_at c.args.database.now) c.args.command c.requires c.in-Verify.first c.in-Verify.second c.in-Verify.entries c.in-Verify.is).0

pub verified-requires-clause-second : goal.verified-requires-clause-second
verified-requires-clause-second c =
    subst (λ (k : Catalogue). is_relation_with (known k c.in-Verify.second) ≡ true) (sym c.catalogue-in-Verify.ensures) (ready_verify (catalogue_at c.args.database.now) c.args.command c.requires c.in-Verify.first c.in-Verify.second c.in-Verify.entries c.in-Verify.is).1
