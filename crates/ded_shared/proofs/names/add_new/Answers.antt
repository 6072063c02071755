use Rattle.std.proofs.Common.{rules, ◌≡◌, ◌++◌, ◌||◌, ◌+◌, [], ◌∷◌, take, length, sym, ap, ◌∙◌, subst, true}
use Rattle.std.proofs.Math.Bool.{or-false}
use Rattle.std.proofs.Math.Seq.{take-append_seam}
use Rattle.std.proofs.lemmas.List.{append-nil, take_all}
use Rattle.std.proofs.Math.Numerals.{add-one}
use Rattle.std.proofs.Math.Seq.{take-suc}
use Rattle.ded_shared.specs.State.{is_among}
use Rattle.ded_shared.proofs.NewNames.{AreAdded, name_added, name_there}
use Rattle.ded_shared.proofs.names.add_new.Goals.{then-not-contains+in_ok-copy+in_ok-push, else-not-contains}
use Rattle.ded_shared.proofs.names.add_new.Goals as goal

pub loop-name-init : goal.loop-name-init
loop-name-init c = record { added = []; is = sym (append-nil c.args.names.now.items); among = λ n. sym (or-false (is_among c.args.names.now.items n)) }

pub returns-in_err-copy-clause-front : goal.returns-in_err-copy-clause-front
returns-in_err-copy-clause-front c = ap (take (length c.args.names.now.items)) c.loop-name.invariant.is ∙ take-append_seam c.args.names.now.items c.loop-name.invariant.added

pub returns-in_err-push-clause-front : goal.returns-in_err-push-clause-front
returns-in_err-push-clause-front c =
    let same : c.push.new.self.items ≡ c.loop-name.names.items = search rules in
    ap (take (length c.args.names.now.items)) (same ∙ c.loop-name.invariant.is) ∙ take-append_seam c.args.names.now.items c.loop-name.invariant.added

pub loop-name-preserved : goal.loop-name-preserved
loop-name-preserved c =
    let grown : take (c.loop-name.name-index + 1) c.args.more.now ≡ take c.loop-name.name-index c.args.more.now ++ c.name-item.result ∷ [] =
    ap (λ k. take k c.args.more.now) (add-one c.loop-name.name-index) ∙ take-suc c.args.more.now c.loop-name.name-index c.name-item.result c.loop-name-test.true ∙ ap (λ y. take c.loop-name.name-index c.args.more.now ++ y ∷ []) (sym c.name-item.is) in
    elim c.if-not-contains.branch [
      | then-not-contains+in_ok-copy+in_ok-push w ↦
          let more : c.if-not-contains.names.items ≡ c.loop-name.names.items ++ c.name-item.result ∷ [] = search rules in
          name_added c.args.names.now.items c.loop-name.names.items c.if-not-contains.names.items (take c.loop-name.name-index c.args.more.now) (take (c.loop-name.name-index + 1) c.args.more.now) c.name-item.result more grown c.loop-name.invariant
      | else-not-contains w ↦
          let same : c.if-not-contains.names.items ≡ c.loop-name.names.items = search rules in
          let there : is_among c.loop-name.names.items c.name-item.result ≡ true = search rules in
          subst (AreAdded c.args.names.now.items (take (c.loop-name.name-index + 1) c.args.more.now)) (sym same)
          (name_there c.args.names.now.items c.loop-name.names.items (take c.loop-name.name-index c.args.more.now) (take (c.loop-name.name-index + 1) c.args.more.now) c.name-item.result there grown c.loop-name.invariant)
    ]

pub returns-clause-front : goal.returns-clause-front
returns-clause-front c = ap (take (length c.args.names.now.items)) c.loop-name.invariant.is ∙ take-append_seam c.args.names.now.items c.loop-name.invariant.added

pub returns-clause-ok : goal.returns-clause-ok
returns-clause-ok c =
    λ n. c.loop-name.invariant.among n ∙ ap (λ l. is_among c.args.names.now.items n || is_among l n) (take_all c.loop-name.name-index c.args.more.now c.loop-name-test.false)
