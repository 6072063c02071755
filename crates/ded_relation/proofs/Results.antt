-- From what one call answers to what the next one does.
use Rattle.std.proofs.Common.{◌≡◌, Result, Ok, Err, IfOk, IfErr, true, false, sym, subst, true≢false}
use Rattle.std.specs.Prelude.{OnErr, OnOk}
use Rattle.std.specs.Result.{is_err}

-- a fact of an answer from two others
pub if_ok : {A E : Type 0} (r : Result A E) (P Q R : A → Type 0) → ((x : A) → P x → Q x → R x) → IfOk r P → IfOk r Q → IfOk r R
if_ok (Ok x) P Q R f p q = f x p q
if_ok (Err e) P Q R f p q = tt

-- a fact of an error from two others
pub if_err : {A E : Type 0} (r : Result A E) (P Q R : E → Type 0) → ((x : E) → P x → Q x → R x) → IfErr r P → IfErr r Q → IfErr r R
if_err (Ok x) P Q R f p q = tt
if_err (Err e) P Q R f p q = f e p q

-- a fact of an answer that is no error
pub not_err : {A E : Type 0} (r : Result A E) (G : Type 0) → is_err r ≡ false → OnOk r G → G
not_err (Ok x) G h g = g
not_err (Err e) G h g = absurd (true≢false h)

-- a fact of an answer that isn't one of its value
pub on_answer : {A E : Type 0} (r : Result A E) (P : A → Type 0) (G : Type 0) → ((x : A) → P x → G) → IfOk r P → OnOk r G
on_answer (Ok x) P G f p = f x p
on_answer (Err e) P G f p = tt

-- what follows from a fact of an answer
pub on_ok : {A E : Type 0} (r : Result A E) (G H : Type 0) → (G → H) → OnOk r G → OnOk r H
on_ok (Ok x) G H f g = f g
on_ok (Err e) G H f g = tt

-- a fact that holds after either
pub after : {A E X : Type 0} (r : Result A E) (P : X → Type 0) (new a b : X) → OnOk r (new ≡ a) → OnErr r (new ≡ b) → P a → P b → P new
after (Ok x) P new a b ok err p q = subst P (sym ok) p
after (Err e) P new a b ok err p q = subst P (sym err) q

pub either : {A E : Type 0} (r : Result A E) (P : A → Type 0) (Q : E → Type 0) (G : Type 0) → IfOk r P → IfErr r Q → ((x : A) → P x → G) → ((x : E) → Q x → G) → G
either (Ok x) P Q G ok err f g = f x ok
either (Err e) P Q G ok err f g = g e err

-- a fact of an error that isn't one of its cause
pub on_err : {A E : Type 0} (r : Result A E) (P : E → Type 0) (G : Type 0) → ((x : E) → P x → G) → IfErr r P → OnErr r G
on_err (Ok x) P G f p = tt
on_err (Err e) P G f p = f e p

-- a fact of an error that is one
pub an_err : {A E : Type 0} (r : Result A E) (G : Type 0) → is_err r ≡ true → OnErr r G → G
an_err (Ok x) G h g = absurd (true≢false (sym h))
an_err (Err e) G h g = g

-- what follows from each of both
pub either_way : {A E G : Type 0} (r : Result A E) (P Q : Type 0) → OnOk r P → OnErr r Q → (P → G) → (Q → G) → G
either_way (Ok x) P Q p q f g = f p
either_way (Err e) P Q p q f g = g q
