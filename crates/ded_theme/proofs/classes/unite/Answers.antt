use Rattle.std.proofs.Common.{true≢false, ap, sym, ◌∙◌}
use Rattle.std.specs.Prelude.{IsTrue}
use Rattle.ded_num.proofs.Tests.{bytes_eq-of}
use Rattle.ded_theme.specs.Sources.{source, quoted}
use Rattle.ded_theme.specs.Classes.{rules_of, AreUnited, IsBound}
use Rattle.ded_theme.proofs.Lists.{if_ok_weaker}
use Rattle.ded_theme.proofs.Ruling.{class_here, united_by, united-swap, apart_by}
use Rattle.ded_theme.proofs.classes.unite.Goals as goal

pub returns-in-At-default-clause-united : goal.returns-in-At-default-clause-united
returns-in-At-default-clause-united c =
    let old = rules_of c.args.rules.now.items in
    let new = rules_of c.bind.new.rules.items in
    let v = source c.args.left in
    let w = source c.args.right in
    let s = c.in-At-default.slot in
    let x = source c.class_word-word.result in
    let in_left = class_here c.deref.result.now c.args.rules.now.items (source c.args.left) (source c.class_word.result) c.deref.ensures.value c.class_word.ensures in
    let in_right = class_here c.deref-2.result.now c.args.rules.now.items (source c.args.right) (source c.class_word-word.result) c.deref-2.ensures.value c.class_word-word.ensures in
    if_ok_weaker (λ b. IsBound old new s x) (λ b. IsTrue b → AreUnited old new v w) c.bind.result
    (λ b h _. united_by old new v w s x (in_left ∙ ap source c.in-At-default.is-0) in_right h)
    c.bind.ensures.bound

pub returns-in-Quoted-At-clause-united : goal.returns-in-Quoted-At-clause-united
returns-in-Quoted-At-clause-united c =
    let old = rules_of c.args.rules.now.items in
    let new = rules_of c.bind-in-Quoted-At.new.rules.items in
    let v = source c.args.left in
    let w = source c.args.right in
    let s = c.in-Quoted-At.slot in
    let x = quoted c.in-Quoted-At.text.now in
    let in_left = class_here c.deref.result.now c.args.rules.now.items (source c.args.left) (source c.class_word.result) c.deref.ensures.value c.class_word.ensures in
    let in_right = class_here c.deref-2.result.now c.args.rules.now.items (source c.args.right) (source c.class_word-word.result) c.deref-2.ensures.value c.class_word-word.ensures in
    if_ok_weaker (λ b. IsBound old new s x) (λ b. IsTrue b → AreUnited old new v w) c.bind-in-Quoted-At.result
    (λ b h _. united-swap old new v w (united_by old new w v s x (in_right ∙ ap source c.in-Quoted-At.is-1) (in_left ∙ ap source c.in-Quoted-At.is-0) h))
    c.bind-in-Quoted-At.ensures.bound

pub returns-in-Quoted-Quoted-clause-apart : goal.returns-in-Quoted-Quoted-clause-apart
returns-in-Quoted-Quoted-clause-apart c =
    let q = c.in-Quoted-Quoted in
    let in_left = class_here c.deref.result.now c.args.rules.now.items (source c.args.left) (source c.class_word.result) c.deref.ensures.value c.class_word.ensures in
    let in_right = class_here c.deref-2.result.now c.args.rules.now.items (source c.args.right) (source c.class_word-word.result) c.deref-2.ensures.value c.class_word-word.ensures in
    λ h. apart_by (rules_of c.args.rules.now.items) (source c.args.left) (source c.args.right) q.first.now q.second.now
    (in_left ∙ ap source q.is-0) (in_right ∙ ap source q.is-1)
    (λ k. true≢false (sym (bytes_eq-of q.first.now q.second.now k) ∙ sym c.is_same.ensures ∙ h))
