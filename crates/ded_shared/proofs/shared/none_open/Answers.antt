use Rattle.std.proofs.Common.{◌≡◌, ℕ, [], ◌∷◌, ◌++◌, None, replicate, ap, ◌∙◌, rules}
use Rattle.std.proofs.lemmas.List.{replicate_more}
use Rattle.ded_shared.proofs.Changing.{Places}
use Rattle.ded_shared.proofs.shared.none_open.Goals as goal

pub loop-preserved : goal.loop-preserved
loop-preserved c = c.in_ok-push.ensures.items ∙ ap (λ (l : Places). l ++ None ∷ []) c.loop.invariant ∙ replicate_more c.loop.counter None

pub returns : goal.returns
returns c =
    let all : c.loop.counter ≡ 64 = search rules in
    c.loop.invariant ∙ ap (λ (n : ℕ). replicate n None) all
