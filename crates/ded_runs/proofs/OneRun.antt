-- Two runs of one script that write the same bytes are one run.
use Rattle.std.proofs.Common.{◌≡◌, inl, inr, ℕ, List, [], ◌∷◌, ◌++◌, refl, sym, ap₂, ◌∙◌, subst}
use Rattle.ded_lex.specs.Pieces.{Statement}
use Rattle.ded_lex.proofs.Cuts.{one_list}
use Rattle.ded_model.specs.declared.command.Language.{Language}
use Rattle.ded_model.specs.declared.command.Language.TheVariants.{Opening, One, Two}
use Rattle.ded_model.specs.Catalogue.{Catalogue}
use Rattle.ded_model.specs.Known.{IsWellFormed}
use Rattle.ded_session.specs.PlainNames.{HasPlainNames}
use Rattle.ded_session.specs.Replies.{ReplyForm}
use Rattle.ded_session.specs.Runs.{GoesOn, Steps, Run, empty_catalogue}
use Rattle.ded_session.specs.Steps.{Step}
use Rattle.ded_session.specs.Texts.{text_of, texts}
use Rattle.ded_runs.specs.Read.{WasCatalogueRead}
use Rattle.ded_runs.proofs.OneReply.{one_reply}
use Rattle.ded_runs.proofs.Ordering.{short_views}
use Rattle.ded_runs.proofs.ShortAnswers.{Lengths}

-- what is so of each catalogue to which a run leads
pub record IsReached (c : Catalogue) : Type 0 where
  pub formed : IsWellFormed c
  pub names : HasPlainNames c
  pub read : WasCatalogueRead c

-- what the laws of steps say
pub record Keeping : Type 0 where
  pub lengths : Lengths
  pub formed : (l : Language) (c d : Catalogue) (s : Statement) (reply : ReplyForm) → IsWellFormed c → Step l c s reply d → IsWellFormed d
  pub names : (l : Language) (c d : Catalogue) (s : Statement) (reply : ReplyForm) → HasPlainNames c → Step l c s reply d → HasPlainNames d
  pub read : (l : Language) (c d : Catalogue) (s : Statement) (reply : ReplyForm) → WasCatalogueRead c → Step l c s reply d → WasCatalogueRead d

one_language : (l next other : Language) (s : Statement) → GoesOn l s next → GoesOn l s other → next ≡ other
one_language Opening next other s (inl g) (inl h) = g.1 ∙ sym h.1
one_language Opening next other s (inl g) (inr h) = absurd (h.0 g.0)
one_language Opening next other s (inr g) (inl h) = absurd (g.0 h.0)
one_language Opening next other s (inr g) (inr h) = g.1 ∙ sym h.1
one_language One next other s g h = g ∙ sym h
one_language Two next other s g h = g ∙ sym h

module _ (laws : Keeping) where
  told : (l : Language) (c d e : Catalogue) (s : Statement) (reply other : ReplyForm) (xs ys : List ℕ) → IsReached c → Step l c s reply d → Step l c s other e
      → text_of reply ++ xs ≡ text_of other ++ ys → (reply ≡ other) × (d ≡ e) × (xs ≡ ys)
  told l c d e s reply other xs ys r p q t = one_reply laws.lengths c r.formed r.names (short_views c.entries r.read) l s d e reply other xs ys p q t

  reaches : (l : Language) (c d : Catalogue) (s : Statement) (reply : ReplyForm) → IsReached c → Step l c s reply d → IsReached d
  reaches l c d s reply r p = record { formed = laws.formed l c d s reply r.formed p; names = laws.names l c d s reply r.names p; read = laws.read l c d s reply r.read p }

  pub one_steps : (l : Language) (c : Catalogue) (ss : List Statement) (replies others : List ReplyForm) (d e : Catalogue) → IsReached c
      → Steps l c ss replies d → Steps l c ss others e → texts replies ≡ texts others → (replies ≡ others) × (d ≡ e)
  one_steps l c [] [] [] d e r p q t = (refl, p ∙ sym q)
  one_steps l c [] [] (y ∷ ys) d e r p q t = absurd q
  one_steps l c [] (x ∷ xs) others d e r p q t = absurd p
  one_steps l c (s ∷ ss) [] others d e r p q t = absurd p
  one_steps l c (s ∷ ss) (x ∷ xs) [] d e r p q t = absurd q
  one_steps l c (s ∷ ss) (x ∷ xs) (y ∷ ys) d e r p q t =
      let one = told l c p.0 q.0 s x y (texts xs) (texts ys) r p.2 q.2 t in
      let next : q.1 ≡ p.1 = one_language l q.1 p.1 s q.3 p.3 in
      let other : Steps p.1 p.0 ss ys e = subst (λ m. Steps m p.0 ss ys e) next (subst (λ k. Steps q.1 k ss ys e) (sym one.1) q.4) in
      let more = one_steps p.1 p.0 ss xs ys d e (reaches l c p.0 s x r p.2) p.4 other one.2 in
      (ap₂ (λ (z : ReplyForm) (zs : List ReplyForm). z ∷ zs) one.0 more.0, more.1)

  pub one_run : (limit : ℕ) (script : List ℕ) (replies others : List ReplyForm) (c d : Catalogue) → Run limit script replies c → Run limit script others d
      → texts replies ≡ texts others → (replies ≡ others) × (c ≡ d)
  one_run limit script replies others c d p q t =
      one_steps Opening (empty_catalogue limit) p.statements replies others c d (record { formed = tt; names = tt; read = tt }) p.steps
      (subst (λ ss. Steps Opening (empty_catalogue limit) ss others d) (one_list script q.statements p.statements q.cut p.cut) q.steps) t
