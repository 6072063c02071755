-- One level of reading.
use Rattle.std.proofs.Common.{◌≡◌, ◌≢◌, ℕ, zero, suc, inl, inr, ◌⊎◌, ◌+◌, ◌-◌, ◌<◌, ◌≤◌, List, [], ◌∷◌, refl, arith, ap, subst, sym, ◌∙◌}
use Rattle.std.specs.Prelude.{Option, Some, None, max, nat_lt, Bool, true, false, if◌then◌else◌}
use Rattle.std.proofs.lemmas.Bool.Decides.{nat_tests}
use Rattle.ded_grammar.specs.Trees.{TerminalForm, nay, opening, binder, leaf, quantified}
use Rattle.ded_model.specs.declared.name.Column.{Column}
use Rattle.ded_model.specs.Form.{Form}
use Rattle.ded_model.specs.declared.formula.Formula.{Formula}
use Rattle.ded_model.specs.Logic.{negation, implies}
use Rattle.ded_grammar.specs.declared.terminal.Quantifier.{Quantifier}
use Rattle.ded_model.specs.declared.fault.ParseFault.{ParseFault}
use Rattle.ded_model.specs.declared.fault.ParseFault.TheVariants.{NotRead, Memory}
use Rattle.ded_grammar.specs.Gives.{Fails}
use Rattle.ded_grammar.specs.declared.terminal.Terminal.{Terminal}
use Rattle.ded_grammar.specs.declared.terminal.Terminal.TheVariants.{Not, And, Or, Implies, Close, Atom}
use Rattle.ded_grammar.specs.Forms.{terminal_form, terminal_forms}
use Rattle.ded_grammar.specs.Building.{◌>>=◌, closed, one_by, body_by, whole_by, either_by, after_arrow, after_left, Found, readers, read_one, read_body, read_whole}

pub one_level : (k : ℕ) (ps : List TerminalForm) → read_one (suc k) ps ≡ one_by (read_one k) (read_body k) (read_whole k) ps
unfolding readers read_one read_body read_whole
one_level k ps = refl

pub body_level : (k : ℕ) (ps : List TerminalForm) → read_body (suc k) ps ≡ body_by (read_body k) (read_whole (suc k)) ps
unfolding readers read_one read_body read_whole
body_level k ps = refl

pub whole_level : (k : ℕ) (ps : List TerminalForm) → read_whole (suc k) ps ≡ whole_by (suc k) (read_one (suc k)) (read_whole k) ps
unfolding readers read_one read_body read_whole
whole_level k ps = refl

pub one_none : (ps : List TerminalForm) → read_one 0 ps ≡ None
unfolding readers read_one
one_none ps = refl

pub body_none : (ps : List TerminalForm) → read_body 0 ps ≡ None
unfolding readers read_body
body_none ps = refl

pub whole_none : (ps : List TerminalForm) → read_whole 0 ps ≡ None
unfolding readers read_whole
whole_none ps = refl

-- the same where the room isn't written as a successor
above : (k : ℕ) → k ≢ 0 → k ≡ suc (k - 1)
above zero n = absurd (n refl)
above (suc k) n = omega arith

pub one_at : (k : ℕ) (ps : List TerminalForm) → k ≢ 0 → read_one k ps ≡ one_by (read_one (k - 1)) (read_body (k - 1)) (read_whole (k - 1)) ps
one_at k ps n = ap (λ (j : ℕ). read_one j ps) (above k n) ∙ one_level (k - 1) ps

pub body_at : (k : ℕ) (ps : List TerminalForm) → k ≢ 0 → read_body k ps ≡ body_by (read_body (k - 1)) (read_whole k) ps
body_at k ps n = ap (λ (j : ℕ). read_body j ps) (above k n) ∙ body_level (k - 1) ps ∙ ap (λ (j : ℕ). body_by (read_body (k - 1)) (read_whole j) ps) (sym (above k n))

pub whole_at : (k : ℕ) (ps : List TerminalForm) → k ≢ 0 → read_whole k ps ≡ whole_by k (read_one k) (read_whole (k - 1)) ps
whole_at k ps n = ap (λ (j : ℕ). read_whole j ps) (above k n) ∙ whole_level (k - 1) ps ∙ ap (λ (j : ℕ). whole_by j (read_one j) (read_whole (k - 1)) ps) (sym (above k n))

-- the arms of one and body
pub arm_not : (k : ℕ) (ps rest : List TerminalForm) → k ≢ 0 → ps ≡ nay ∷ rest → read_one k ps ≡ (read_one (k - 1) rest >>= λ x. Some (negation x.0, x.1 + 1, x.2))
arm_not k ps rest n e = one_at k ps n ∙ ap (one_by (read_one (k - 1)) (read_body (k - 1)) (read_whole (k - 1))) e

pub arm_open : (k : ℕ) (ps rest : List TerminalForm) → k ≢ 0 → ps ≡ opening ∷ rest → read_one k ps ≡ (read_whole (k - 1) rest >>= λ x. closed x >>= λ y. Some (y.0, y.1 + 1, y.2))
arm_open k ps rest n e = one_at k ps n ∙ ap (one_by (read_one (k - 1)) (read_body (k - 1)) (read_whole (k - 1))) e

pub arm_bind : (k : ℕ) (ps rest : List TerminalForm) (q : Quantifier) (c : Column) → k ≢ 0 → ps ≡ binder q c ∷ rest → read_one k ps ≡ (read_body (k - 1) rest >>= λ x. Some (quantified q c x.0, x.1 + 1, x.2))
arm_bind k ps rest q c n e = one_at k ps n ∙ ap (one_by (read_one (k - 1)) (read_body (k - 1)) (read_whole (k - 1))) e

pub arm_leaf : (k : ℕ) (ps rest : List TerminalForm) (f : Form) → k ≢ 0 → ps ≡ leaf f ∷ rest → read_one k ps ≡ Some (f, 0, rest)
arm_leaf k ps rest f n e = one_at k ps n ∙ ap (one_by (read_one (k - 1)) (read_body (k - 1)) (read_whole (k - 1))) e

pub arm_end : (k : ℕ) (ps : List TerminalForm) → k ≢ 0 → ps ≡ [] → read_one k ps ≡ None
arm_end k ps n e = one_at k ps n ∙ ap (one_by (read_one (k - 1)) (read_body (k - 1)) (read_whole (k - 1))) e

pub body_open : (k : ℕ) (ps rest : List TerminalForm) → k ≢ 0 → ps ≡ opening ∷ rest → read_body k ps ≡ (read_whole k rest >>= closed)
body_open k ps rest n e = body_at k ps n ∙ ap (body_by (read_body (k - 1)) (read_whole k)) e

pub body_bind : (k : ℕ) (ps rest : List TerminalForm) (q : Quantifier) (c : Column) → k ≢ 0 → ps ≡ binder q c ∷ rest → read_body k ps ≡ (read_body (k - 1) rest >>= λ x. Some (quantified q c x.0, x.1 + 1, x.2))
body_bind k ps rest q c n e = body_at k ps n ∙ ap (body_by (read_body (k - 1)) (read_whole k)) e

pub body_end : (k : ℕ) (ps : List TerminalForm) → k ≢ 0 → ps ≡ [] → read_body k ps ≡ None
body_end k ps n e = body_at k ps n ∙ ap (body_by (read_body (k - 1)) (read_whole k)) e

-- what comes after a step
pub passes : {Y Z : Type 0} (e : ParseFault) (o : Option Y) (g : Y → Option Z) (r : Option Z) → r ≡ (o >>= g) → Fails e o → Fails e r
passes NotRead o g r is h = is ∙ ap (λ p. p >>= g) h
passes Memory o g r is h = tt

pub goes : {Y Z : Type 0} (o : Option Y) (g : Y → Option Z) (r : Option Z) (x : Y) → r ≡ (o >>= g) → o ≡ Some x → r ≡ g x
goes o g r x is h = is ∙ ap (λ p. p >>= g) h

-- the first terminal is that of the value found there
pub head : (items rest : List Terminal) (i j : Terminal) → terminal_forms items ≡ terminal_form i ∷ terminal_forms rest → i ≡ j → terminal_forms items ≡ terminal_form j ∷ terminal_forms rest
head items rest i j e f = e ∙ ap (λ (x : Terminal). terminal_form x ∷ terminal_forms rest) f

pub no_one : (k : ℕ) (items rest : List Terminal) (i : Terminal) → k ≢ 0 → terminal_forms items ≡ terminal_form i ∷ terminal_forms rest → ((i ≡ And) ⊎ (i ≡ Or) ⊎ (i ≡ Implies) ⊎ (i ≡ Close)) → read_one k (terminal_forms items) ≡ None
no_one k items rest i n e (inl f) = one_at k (terminal_forms items) n ∙ ap (one_by (read_one (k - 1)) (read_body (k - 1)) (read_whole (k - 1))) (head items rest i And e f)
no_one k items rest i n e (inr (inl f)) = one_at k (terminal_forms items) n ∙ ap (one_by (read_one (k - 1)) (read_body (k - 1)) (read_whole (k - 1))) (head items rest i Or e f)
no_one k items rest i n e (inr (inr (inl f))) = one_at k (terminal_forms items) n ∙ ap (one_by (read_one (k - 1)) (read_body (k - 1)) (read_whole (k - 1))) (head items rest i Implies e f)
no_one k items rest i n e (inr (inr (inr f))) = one_at k (terminal_forms items) n ∙ ap (one_by (read_one (k - 1)) (read_body (k - 1)) (read_whole (k - 1))) (head items rest i Close e f)

left : (k : ℕ) (ps : List TerminalForm) (x : Found) → k ≢ 0 → either_by (read_one k) ps ≡ Some x → read_whole k ps ≡ after_left k (read_whole (k - 1)) x (after_arrow x.2)
left k ps x n r = whole_at k ps n ∙ ap (λ (o : Option Found). o >>= λ x. after_left k (read_whole (k - 1)) x (after_arrow x.2)) r

pub whole_stop : (k : ℕ) (ps : List TerminalForm) (x : Found) → k ≢ 0 → either_by (read_one k) ps ≡ Some x → after_arrow x.2 ≡ None → read_whole k ps ≡ Some x
whole_stop k ps x n r s = left k ps x n r ∙ ap (after_left k (read_whole (k - 1)) x) s

pub whole_high : (k : ℕ) (ps more : List TerminalForm) (x : Found) → k ≢ 0 → either_by (read_one k) ps ≡ Some x → after_arrow x.2 ≡ Some more → k ≤ x.1 + 1 → read_whole k ps ≡ None
whole_high k ps more x n r s h =
    let t : nat_lt (x.1 + 1) k ≡ false = grind (arith, nat_tests) in
    left k ps x n r ∙ ap (after_left k (read_whole (k - 1)) x) s
    ∙ ap (λ (b : Bool). if b then (read_whole (k - 1) more >>= λ y. Some (implies x.0 y.0, max x.1 y.1 + 1, y.2)) else None) t

pub whole_right : (k : ℕ) (ps more : List TerminalForm) (x : Found) → k ≢ 0 → either_by (read_one k) ps ≡ Some x → after_arrow x.2 ≡ Some more → x.1 + 1 < k → read_whole k ps ≡ (read_whole (k - 1) more >>= λ y. Some (implies x.0 y.0, max x.1 y.1 + 1, y.2))
whole_right k ps more x n r s h =
    let t : nat_lt (x.1 + 1) k ≡ true = grind (arith, nat_tests) in
    left k ps x n r ∙ ap (after_left k (read_whole (k - 1)) x) s
    ∙ ap (λ (b : Bool). if b then (read_whole (k - 1) more >>= λ y. Some (implies x.0 y.0, max x.1 y.1 + 1, y.2)) else None) t

pub no_body : (k : ℕ) (items rest : List Terminal) (i : Terminal) → k ≢ 0 → terminal_forms items ≡ terminal_form i ∷ terminal_forms rest → (i ≡ Not) ⊎ (i ≡ And) ⊎ (i ≡ Or) ⊎ (i ≡ Implies) ⊎ (i ≡ Close) ⊎ ((f : Formula) × (i ≡ Atom f)) → read_body k (terminal_forms items) ≡ None
no_body k items rest i n e (inl f) = body_at k (terminal_forms items) n ∙ ap (body_by (read_body (k - 1)) (read_whole k)) (head items rest i Not e f)
no_body k items rest i n e (inr (inl f)) = body_at k (terminal_forms items) n ∙ ap (body_by (read_body (k - 1)) (read_whole k)) (head items rest i And e f)
no_body k items rest i n e (inr (inr (inl f))) = body_at k (terminal_forms items) n ∙ ap (body_by (read_body (k - 1)) (read_whole k)) (head items rest i Or e f)
no_body k items rest i n e (inr (inr (inr (inl f)))) = body_at k (terminal_forms items) n ∙ ap (body_by (read_body (k - 1)) (read_whole k)) (head items rest i Implies e f)
no_body k items rest i n e (inr (inr (inr (inr (inl f))))) = body_at k (terminal_forms items) n ∙ ap (body_by (read_body (k - 1)) (read_whole k)) (head items rest i Close e f)
no_body k items rest i n e (inr (inr (inr (inr (inr x))))) = body_at k (terminal_forms items) n ∙ ap (body_by (read_body (k - 1)) (read_whole k)) (head items rest i (Atom x.0) e x.1)

pub not_read : {Y : Type 0} (e : ParseFault) (o : Option Y) → e ≡ NotRead → Fails e o → o ≡ None
not_read e o is h = subst (λ (x : ParseFault). Fails x o) is h
