use Rattle.std.proofs.Common.{rules, ◌≡◌, true, ℕ, subst, Some, None}
use Rattle.std.proofs.lemmas.List.Filters.{dedup_is}
use Rattle.ded_relation.specs.Texts.{is_text_at, code, HasAll}
use Rattle.ded_relation.proofs.Coded.{found_one}
use Rattle.ded_relation.proofs.texts.Texts.find_one.Goals as goal

pub returns-then-branch-2 : goal.returns-then-branch-2
returns-then-branch-2 c =
    let texts = c.args.self.now in
    let u = c.args.asked.now in
    let text : is_text_at c.args.heading.now u.0 ≡ true = search rules in
    let one = c.push_behind.new.found.items in
    let both = c.push_behind-then-branch.new.found.items in
    let fixed : HasAll texts.set (code texts.hashing u.0 (Some u.1)) c.new-found.result.items one = subst (λ (x : ℕ). HasAll texts.set x c.new-found.result.items one) c.text_code.ensures (c.in_ok-push_behind.ensures c.if-branch.true) in
    let open_ : HasAll texts.set (code texts.hashing u.0 None) one both = subst (λ (x : ℕ). HasAll texts.set x one both) c.text_code-then-branch.ensures (c.in_ok-push_behind-2.ensures c.if-branch-2.true) in
    found_one texts.hashing c.args.heading.now texts.set u c.new-found.result.items one both c.sort_unstable.new.self.items c.dedup.new.self.items text fixed open_ c.sort_unstable.ensures.permutation c.sort_unstable.ensures.sorted (dedup_is _ _ _ c.dedup.ensures.filtered)
