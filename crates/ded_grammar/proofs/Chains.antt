-- Chains, as a loop reads them.
use Rattle.std.proofs.Common.{◌≡◌, ℕ, ◌+◌, ◌-◌, ◌<◌, ◌≤◌, List, [], ◌∷◌, ◌++◌, refl, arith, ap, sym, ◌∙◌, append_assoc}
use Rattle.std.specs.Prelude.{Option, Some, None, max}
use Rattle.ded_num.proofs.Tests.{minus_step}
use Rattle.ded_model.specs.Form.{Form}
use Rattle.ded_grammar.specs.Trees.{TerminalForm}
use Rattle.ded_model.specs.declared.fault.ParseFault.{ParseFault}
use Rattle.ded_model.specs.declared.fault.ParseFault.TheVariants.{NotRead, Memory}
use Rattle.ded_grammar.specs.Gives.{Fails}
use Rattle.ded_grammar.specs.Building.{◌>>=◌, Found, Reader, Chain, onto, chain}

-- what a chain gives behind these members
abbrev pub with_front : List Form → ℕ → Option Chain → Option Chain
with_front fs n read = read >>= λ c. Some (fs ++ c.0, max n c.1, c.2)

join_front : (fs : List Form) (f : Form) (n a top : ℕ) (here : List TerminalForm) (o : Option Chain) → top ≡ max a n → with_front fs n (o >>= λ c. Some (onto (f, a, here) c)) ≡ with_front (fs ++ f ∷ []) top o
join_front fs f n a top here None e = refl
join_front fs f n a top here (Some c) e = ap (λ (l : List Form). Some (l, max n (max a c.1), c.2)) (sym (append_assoc fs (f ∷ []) c.0)) ∙ ap (λ (m : ℕ). Some ((fs ++ f ∷ []) ++ c.0, m, c.2)) (omega (arith, e))

pub chain_on : (read : Reader) (sign : List TerminalForm → Option (List TerminalForm)) (l i n a top : ℕ) (fs : List Form) (f : Form) (ps here after : List TerminalForm) (t : Option Chain) → i < l → read ps ≡ Some (f, a, here) → sign here ≡ Some after → top ≡ max a n → with_front fs n (chain read sign (l - i) ps) ≡ t → with_front (fs ++ f ∷ []) top (chain read sign (l - (i + 1)) after) ≡ t
chain_on read sign l i n a top fs f ps here after t lt r s m inv =
    sym (join_front fs f n a top here (chain read sign (l - (i + 1)) after) m)
    ∙ ap (with_front fs n) (sym (rw (minus_step l i lt, r, s) refl))
    ∙ inv

one_done : (read : Reader) (sign : List TerminalForm → Option (List TerminalForm)) (l i a : ℕ) (f : Form) (ps here : List TerminalForm) → i < l → read ps ≡ Some (f, a, here) → sign here ≡ None → chain read sign (l - i) ps ≡ Some (f ∷ [], a, here)
one_done read sign l i a f ps here lt r s = rw (minus_step l i lt, r, s) refl

none_done : (read : Reader) (sign : List TerminalForm → Option (List TerminalForm)) (l i : ℕ) (ps : List TerminalForm) → i < l → read ps ≡ None → chain read sign (l - i) ps ≡ None
none_done read sign l i ps lt r = rw (minus_step l i lt, r) refl

pub chain_done : (read : Reader) (sign : List TerminalForm → Option (List TerminalForm)) (l i n a top : ℕ) (fs : List Form) (f : Form) (ps here : List TerminalForm) (t : Option Chain) → i < l → read ps ≡ Some (f, a, here) → sign here ≡ None → top ≡ max a n → with_front fs n (chain read sign (l - i) ps) ≡ t → t ≡ Some (fs ++ f ∷ [], top, here)
chain_done read sign l i n a top fs f ps here t lt r s m inv =
    sym inv ∙ ap (with_front fs n) (one_done read sign l i a f ps here lt r s) ∙ ap (λ (k : ℕ). Some (fs ++ f ∷ [], k, here)) (omega (arith, m))

pub chain_fails : (read : Reader) (sign : List TerminalForm → Option (List TerminalForm)) (l i n : ℕ) (fs : List Form) (ps : List TerminalForm) (t : Option Chain) (e : ParseFault) (make : Chain → Option Found) → i < l → Fails e (read ps) → with_front fs n (chain read sign (l - i) ps) ≡ t → Fails e (t >>= make)
chain_fails read sign l i n fs ps t Memory make lt r inv = tt
chain_fails read sign l i n fs ps t NotRead make lt r inv =
    ap (λ o. o >>= make) (sym inv ∙ ap (with_front fs n) (none_done read sign l i ps lt r))

pub chain_out : (read : Reader) (sign : List TerminalForm → Option (List TerminalForm)) (l i n : ℕ) (fs : List Form) (ps : List TerminalForm) (t : Option Chain) (make : Chain → Option Found) → l ≤ i → with_front fs n (chain read sign (l - i) ps) ≡ t → (t >>= make) ≡ None
chain_out read sign l i n fs ps t make le inv =
    let z : l - i ≡ 0 = omega (arith, le) in
    ap (λ o. o >>= make) (sym inv ∙ ap (λ (k : ℕ). with_front fs n (chain read sign k ps)) z)
