-- Seven or eight texts that are put one after another.
use Rattle.std.proofs.Common.{◌≡◌, ℕ, List, ◌++◌}
use Rattle.std.specs.Prelude.{Result, OnOk}
use Rattle.ded_dump.proofs.Puts.{last_two, last_three}

last_four : {A E : Type 0} (r : Result A E) (t u v w x a b d e : List ℕ) → u ≡ t ++ a → v ≡ u ++ b → w ≡ v ++ d → OnOk r (x ≡ w ++ e) → OnOk r (x ≡ t ++ (a ++ (b ++ (d ++ e))))
last_four r t u v w x a b d e h i j k = last_two r t u x a (b ++ (d ++ e)) h (last_three r u v w x b d e i j k)

-- four texts before others
then_four : {A E : Type 0} (r : Result A E) (t u v w x z a b d e f : List ℕ) → u ≡ t ++ a → v ≡ u ++ b → w ≡ v ++ d → x ≡ w ++ e → OnOk r (z ≡ x ++ f) → OnOk r (z ≡ t ++ (a ++ (b ++ (d ++ (e ++ f)))))
then_four r t u v w x z a b d e f h i j k l = last_two r t u z a (b ++ (d ++ (e ++ f))) h (last_four r u v w x z b d e f i j k l)

pub last_eight : {A E : Type 0} (r : Result A E) (t t1 t2 t3 t4 t5 t6 t7 t8 a1 a2 a3 a4 a5 a6 a7 a8 : List ℕ)
    → t1 ≡ t ++ a1 → t2 ≡ t1 ++ a2 → t3 ≡ t2 ++ a3 → t4 ≡ t3 ++ a4 → t5 ≡ t4 ++ a5 → t6 ≡ t5 ++ a6 → t7 ≡ t6 ++ a7 → OnOk r (t8 ≡ t7 ++ a8)
    → OnOk r (t8 ≡ t ++ (a1 ++ (a2 ++ (a3 ++ (a4 ++ (a5 ++ (a6 ++ (a7 ++ a8))))))))
last_eight r t t1 t2 t3 t4 t5 t6 t7 t8 a1 a2 a3 a4 a5 a6 a7 a8 h1 h2 h3 h4 h5 h6 h7 h8 =
    then_four r t t1 t2 t3 t4 t8 a1 a2 a3 a4 (a5 ++ (a6 ++ (a7 ++ a8))) h1 h2 h3 h4 (last_four r t4 t5 t6 t7 t8 a5 a6 a7 a8 h5 h6 h7 h8)

pub last_seven : {A E : Type 0} (r : Result A E) (t t1 t2 t3 t4 t5 t6 t7 a1 a2 a3 a4 a5 a6 a7 : List ℕ)
    → t1 ≡ t ++ a1 → t2 ≡ t1 ++ a2 → t3 ≡ t2 ++ a3 → t4 ≡ t3 ++ a4 → t5 ≡ t4 ++ a5 → t6 ≡ t5 ++ a6 → OnOk r (t7 ≡ t6 ++ a7)
    → OnOk r (t7 ≡ t ++ (a1 ++ (a2 ++ (a3 ++ (a4 ++ (a5 ++ (a6 ++ a7)))))))
last_seven r t t1 t2 t3 t4 t5 t6 t7 a1 a2 a3 a4 a5 a6 a7 h1 h2 h3 h4 h5 h6 h7 =
    then_four r t t1 t2 t3 t4 t7 a1 a2 a3 a4 (a5 ++ (a6 ++ a7)) h1 h2 h3 h4 (last_three r t4 t5 t6 t7 a5 a6 a7 h5 h6 h7)
