-- A run keeps the limit.
use Rattle.std.proofs.Common.{◌≡◌, ℕ, List, [], ◌∷◌, ap, ◌∙◌}
use Rattle.ded_lex.specs.Pieces.{Statement, Whole}
use Rattle.ded_lex.specs.Pieces as pieces
use Rattle.ded_model.specs.declared.command.Language.{Language}
use Rattle.ded_model.specs.declared.command.Language.TheVariants.{Opening}
use Rattle.ded_model.specs.Catalogue.{Catalogue}
use Rattle.ded_model.specs.Command.{CommandForm, header, relation, insert, delete, drop, view, keep, ask, query, show, box_of, explain, dump, disjoint, verify}
use Rattle.ded_session.specs.Replies.{ReplyForm, done, number, truth, tuples, stored, boxes, steps, script, apart, meeting, refused}
use Rattle.ded_session.specs.Runs.{Steps, Run, empty_catalogue}
use Rattle.ded_session.specs.Steps.{Does, Accepts, Step}

abbrev Keeps : Catalogue → Catalogue → Type 0
Keeps c d = d.limit ≡ c.limit

limit_of : (c d : Catalogue) → d ≡ c → Keeps c d
limit_of c d e = ap (λ (x : Catalogue). x.limit) e

does_keep : (c d : Catalogue) (reply : ReplyForm) (x : CommandForm) → Does x c reply d → Keeps c d
does_keep c d done header k = limit_of c d k
does_keep c d done (relation n cs) k = ap (λ (x : Catalogue). x.limit) k
does_keep c d done (delete n i) k = ap (λ (x : Catalogue). x.limit) k.changes.is
does_keep c d done (drop n) k = ap (λ (x : Catalogue). x.limit) k.is
does_keep c d done (view n cs f) k = ap (λ (x : Catalogue). x.limit) k
does_keep c d done (keep n) k = limit_of c d k
does_keep c d done _ k = absurd k
does_keep c d (number i) (insert n fs) k = ap (λ (x : Catalogue). x.limit) k.changes.is
does_keep c d (number i) _ k = absurd k
does_keep c d (truth b) (ask f) k = limit_of c d k.1
does_keep c d (truth b) (verify n m es) k = limit_of c d k.1
does_keep c d (truth b) _ k = absurd k
does_keep c d (tuples g ts) (query h f) k = limit_of c d k.2
does_keep c d (tuples g ts) _ k = absurd k
does_keep c d (stored g ts) (show n) k = limit_of c d k.2
does_keep c d (stored g ts) _ k = absurd k
does_keep c d (boxes g b) (box_of n) k = limit_of c d k.2
does_keep c d (boxes g b) _ k = absurd k
does_keep c d (steps plan) (explain h f) k = limit_of c d k.1
does_keep c d (steps plan) _ k = absurd k
does_keep c d (script lines) dump k = limit_of c d k.1
does_keep c d (script lines) _ k = absurd k
does_keep c d (apart es) (disjoint n m) k = limit_of c d k.1
does_keep c d (apart es) _ k = absurd k
does_keep c d (meeting i j) (disjoint n m) k = limit_of c d k.1
does_keep c d (meeting i j) _ k = absurd k
does_keep c d (refused r) header k = absurd k
does_keep c d (refused r) _ k = absurd k

accepted_keeps : (l : Language) (c d : Catalogue) (s : Statement) (reply : ReplyForm) → Accepts l s c (λ x. Does x c reply d) → Keeps c d
accepted_keeps l c d (Whole bytes) reply a = does_keep c d reply a.command a.so
accepted_keeps l c d (pieces.Unfinished rest) reply a = absurd a

step_keeps : (l : Language) (c d : Catalogue) (s : Statement) (reply : ReplyForm) → Step l c s reply d → Keeps c d
step_keeps l c d s done p = accepted_keeps l c d s done p
step_keeps l c d s (number k) p = accepted_keeps l c d s (number k) p
step_keeps l c d s (truth b) p = accepted_keeps l c d s (truth b) p
step_keeps l c d s (tuples g ts) p = accepted_keeps l c d s (tuples g ts) p
step_keeps l c d s (stored g ts) p = accepted_keeps l c d s (stored g ts) p
step_keeps l c d s (boxes g b) p = accepted_keeps l c d s (boxes g b) p
step_keeps l c d s (steps plan) p = accepted_keeps l c d s (steps plan) p
step_keeps l c d s (script lines) p = accepted_keeps l c d s (script lines) p
step_keeps l c d s (apart es) p = accepted_keeps l c d s (apart es) p
step_keeps l c d s (meeting i j) p = accepted_keeps l c d s (meeting i j) p
step_keeps l c d s (refused r) p = limit_of c d p.1

steps_keep : (l : Language) (c d : Catalogue) (ss : List Statement) (replies : List ReplyForm) → Steps l c ss replies d → Keeps c d
steps_keep l c d [] [] p = limit_of c d p
steps_keep l c d [] (reply ∷ replies) p = absurd p
steps_keep l c d (s ∷ ss) [] p = absurd p
steps_keep l c d (s ∷ ss) (reply ∷ replies) p = steps_keep p.1 p.0 d ss replies p.4 ∙ step_keeps l c p.0 s reply p.2

pub run_limit : (limit : ℕ) (bytes : List ℕ) (replies : List ReplyForm) (last : Catalogue) → Run limit bytes replies last → last.limit ≡ limit
run_limit limit bytes replies last r = steps_keep Opening (empty_catalogue limit) last r.statements replies r.steps
