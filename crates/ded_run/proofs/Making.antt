-- Texts that are fed in turn.
use Rattle.std.proofs.Common.{◌≡◌, ◌<◌, ℕ, ◌+◌, zero, suc, List, [], ◌∷◌, ◌++◌, sym, ap, ◌∙◌, append_assoc, subst, arith, ⊎_elim, take, drop, get_or, length}
use Rattle.std.specs.Prelude.{Option, Result, Ok, Err, IfOk, OnErr, map, codes}
use Rattle.std.specs.List.{flat_map}
use Rattle.std.proofs.lemmas.Bool.Decides.{eqb_tells}
use Rattle.std.proofs.lemmas.List.{append-nil, map-append, take_more, take-append-drop}
use Rattle.std.proofs.lemmas.List.Concat.{flat_map-append}
use Rattle.ded_dialogue.specs.declared.dialogue.Dialogue.{Dialogue}
use Rattle.ded_dialogue.specs.Runs.{Answers}
use Rattle.ded_dialogue.specs.Streams.{Grows, Breaks}
use Rattle.ded_dialogue.proofs.Feeding.{grows_both, grows_breaks, breaks_on}
use Rattle.ded_run.specs.declared.made.TextPart.{TextPart}
use Rattle.ded_run.specs.Made.{below, line, lines, land_row, road_insert, corner_question, other_corner_question, made_setup, made_questions, made_script}
use Rattle.ded_run.specs.Parts.{part_bytes, parts_bytes}

pub lines_both : (xs ys : List (List ℕ)) → lines (xs ++ ys) ≡ lines xs ++ lines ys
lines_both xs ys = flat_map-append line xs ys

-- ---- one step more

-- each text is the one before and what its step adds
abbrev Adds : (ℕ → List ℕ) → (ℕ → List ℕ) → Type 0
Adds text step = (i : ℕ) → text (suc i) ≡ text i ++ step i

pub rows_add : (g : ℕ → List (List ℕ)) → Adds (λ i. lines (flat_map g (below i))) (λ i. lines (g i))
rows_add g i =
    ap lines (flat_map-append g (below i) (i ∷ []) ∙ ap (λ (l : List (List ℕ)). flat_map g (below i) ++ l) (append-nil (g i)))
    ∙ lines_both (flat_map g (below i)) (g i)

pub lines_add : (f : ℕ → List ℕ) → Adds (λ i. lines (map f (below i))) (λ i. line (f i))
lines_add f i =
    ap lines (map-append f (below i) (i ∷ []))
    ∙ lines_both (map f (below i)) (f i ∷ [])
    ∙ ap (λ (l : List ℕ). lines (map f (below i)) ++ l) (append-nil (line (f i)))

behind : (text step : ℕ → List ℕ) → Adds text step → (i n : ℕ) → i < n → (rest : List ℕ) × (text n ≡ text (suc i) ++ rest)
behind text step adds i zero lt = absurd (omega arith)
behind text step adds i (suc n) lt = ⊎_elim
    (λ same. ([], ap (λ (k : ℕ). text (suc k)) same.1 ∙ sym (append-nil (text (suc i)))))
    (λ other.
    let apart = other.1 in
    let less : i < n = omega (arith, lt, apart) in
    let before = behind text step adds i n less in
    (before.0 ++ step n, adds n ∙ ap (λ (l : List ℕ). l ++ step n) before.1 ∙ append_assoc (text (suc i)) before.0 (step n)))
    (eqb_tells n i)

-- ---- texts that stand one behind another

-- all begins with these bytes
abbrev pub Begun : List ℕ → List ℕ → Type 0
Begun all front = (rest : List ℕ) × (all ≡ front ++ rest)

shorter : (all front next : List ℕ) → Begun all (front ++ next) → Begun all front
shorter all front next b = (next ++ b.0, b.1 ∙ append_assoc front next b.0)

begun_all : (all front : List ℕ) → all ≡ front → Begun all front
begun_all all front is = ([], is ∙ sym (append-nil front))

-- ---- a dialogue that is fed

module _ {A M : Type 0} (R : Answers M) (state : A → M) where
  module _ (a b : Dialogue A) (h0 h1 h2 : Option (List ℕ)) (text step : ℕ → List ℕ) (adds : Adds text step) (i : ℕ) (so_far : Grows R state a b h0 h1 (text i)) where
    grows_step : (c : Dialogue A) → Grows R state b c h1 h2 (step i) → Grows R state a c h0 h2 (text (i + 1))
    grows_step c q =
        let next : i + 1 ≡ suc i = omega arith in
        subst (λ (k : ℕ). Grows R state a c h0 h2 (text k)) (sym next) (subst (λ (l : List ℕ). Grows R state a c h0 h2 l) (sym (adds i)) (grows_both R state a b c h0 h1 h2 (text i) (step i) so_far q))

    breaks_step : (n : ℕ) → i < n → Breaks R state b h1 h2 (step i) → Breaks R state a h0 h2 (text n)
    breaks_step n lt q =
        let here : Breaks R state a h0 h2 (text (suc i)) = subst (λ (l : List ℕ). Breaks R state a h0 h2 l) (sym (adds i)) (grows_breaks R state a b h0 h1 h2 (text i) (step i) so_far q) in
        let rest = behind text step adds i n lt in
        subst (λ (l : List ℕ). Breaks R state a h0 h2 l) (sym rest.1) (breaks_on R state a h0 h2 (text (suc i)) rest.0 here)

  -- one statement more, and one row more
  module _ (f : ℕ → List ℕ) (a b c : Dialogue A) (h0 h1 h2 : Option (List ℕ)) (i : ℕ) where
    pub grows_line : Grows R state a b h0 h1 (lines (map f (below i))) → Grows R state b c h1 h2 (line (f i)) → Grows R state a c h0 h2 (lines (map f (below (i + 1))))
    grows_line p q = grows_step a b h0 h1 h2 (λ k. lines (map f (below k))) (λ k. line (f k)) (lines_add f) i p c q

  pub breaks_line : (f : ℕ → List ℕ) (a b : Dialogue A) (h0 h1 h2 : Option (List ℕ)) (i n : ℕ) → i < n → Grows R state a b h0 h1 (lines (map f (below i))) → Breaks R state b h1 h2 (line (f i)) → Breaks R state a h0 h2 (lines (map f (below n)))
  breaks_line f a b h0 h1 h2 i n lt p q = breaks_step a b h0 h1 h2 (λ k. lines (map f (below k))) (λ k. line (f k)) (lines_add f) i p n lt q

  module _ (g : ℕ → List (List ℕ)) (a b c : Dialogue A) (h0 h1 h2 : Option (List ℕ)) (i : ℕ) where
    pub grows_row : Grows R state a b h0 h1 (lines (flat_map g (below i))) → Grows R state b c h1 h2 (lines (g i)) → Grows R state a c h0 h2 (lines (flat_map g (below (i + 1))))
    grows_row p q = grows_step a b h0 h1 h2 (λ k. lines (flat_map g (below k))) (λ k. lines (g k)) (rows_add g) i p c q

  pub breaks_row : (g : ℕ → List (List ℕ)) (a b : Dialogue A) (h0 h1 h2 : Option (List ℕ)) (i n : ℕ) → i < n → Grows R state a b h0 h1 (lines (flat_map g (below i))) → Breaks R state b h1 h2 (lines (g i)) → Breaks R state a h0 h2 (lines (flat_map g (below n)))
  breaks_row g a b h0 h1 h2 i n lt p q = breaks_step a b h0 h1 h2 (λ k. lines (flat_map g (below k))) (λ k. lines (g k)) (rows_add g) i p n lt q

  -- the sink failed at one of the parts
  pub breaks_part : (a b : Dialogue A) (h0 h1 h2 : Option (List ℕ)) (parts : List TextPart) (i : ℕ) (d : TextPart) → i < length parts → Grows R state a b h0 h1 (parts_bytes (take i parts)) → Breaks R state b h1 h2 (part_bytes (get_or parts i d)) → Breaks R state a h0 h2 (parts_bytes parts)
  breaks_part a b h0 h1 h2 parts i d lt p q =
      let p_i = get_or parts i d in
      let here : parts_bytes (take (i + 1) parts) ≡ parts_bytes (take i parts) ++ part_bytes p_i =
      ap parts_bytes (take_more parts i d lt) ∙ flat_map-append part_bytes (take i parts) (p_i ∷ [])
      ∙ ap (λ (l : List ℕ). parts_bytes (take i parts) ++ l) (append-nil (part_bytes p_i))
      in
      let all : parts_bytes (take (i + 1) parts) ++ parts_bytes (drop (i + 1) parts) ≡ parts_bytes parts =
      sym (flat_map-append part_bytes (take (i + 1) parts) (drop (i + 1) parts)) ∙ ap parts_bytes (take-append-drop (i + 1) parts)
      in
      let broken : Breaks R state a h0 h2 (parts_bytes (take (i + 1) parts)) = subst (λ (l : List ℕ). Breaks R state a h0 h2 l) (sym here) (grows_breaks R state a b h0 h1 h2 (parts_bytes (take i parts)) (part_bytes p_i) p q) in
      subst (λ (l : List ℕ). Breaks R state a h0 h2 l) all (breaks_on R state a h0 h2 (parts_bytes (take (i + 1) parts)) (parts_bytes (drop (i + 1) parts)) broken)

  pub grows_as : (a b : Dialogue A) (h0 h1 : Option (List ℕ)) (bytes all : List ℕ) → all ≡ bytes → Grows R state a b h0 h1 bytes → Grows R state a b h0 h1 all
  grows_as a b h0 h1 bytes all is p = subst (λ (l : List ℕ). Grows R state a b h0 h1 l) (sym is) p

  pub breaks_begun : (a : Dialogue A) (h0 h1 : Option (List ℕ)) (front all : List ℕ) → Begun all front → Breaks R state a h0 h1 front → Breaks R state a h0 h1 all
  breaks_begun a h0 h1 front all b p = subst (λ (l : List ℕ). Breaks R state a h0 h1 l) (sym b.1) (breaks_on R state a h0 h1 front b.0 p)

-- ---- the made script

four : (x y z w : List ℕ) → x ++ (y ++ (z ++ w)) ≡ ((x ++ y) ++ z) ++ w
four x y z w = sym (append_assoc (x ++ y) z w ∙ append_assoc x y (z ++ w))

abbrev pub first_question : List ℕ
first_question = codes "ask exists n text exists k text (Cross(n, k));\n"

abbrev pub boxes : List ℕ
boxes = codes "box Land;\nbox Road;\n"

-- what is fed up to the second question, up to the third, and all
abbrev pub two_questions : ℕ → List ℕ
two_questions n = first_question ++ line (corner_question n)

abbrev pub three_questions : ℕ → List ℕ
three_questions n = two_questions n ++ line (other_corner_question n)

abbrev pub all_questions : ℕ → List ℕ
all_questions n = three_questions n ++ boxes

pub questions_are : (n : ℕ) → lines (made_questions n) ≡ all_questions n
unfolding made_questions
questions_are n = four first_question (line (corner_question n)) (line (other_corner_question n)) boxes

module _ (n : ℕ) where
  pub begun_four : Begun (lines (made_questions n)) (all_questions n)
  begun_four = begun_all (lines (made_questions n)) (all_questions n) (questions_are n)

  pub begun_three : Begun (lines (made_questions n)) (three_questions n)
  begun_three = shorter (lines (made_questions n)) (three_questions n) boxes begun_four

  pub begun_two : Begun (lines (made_questions n)) (two_questions n)
  begun_two = shorter (lines (made_questions n)) (two_questions n) (line (other_corner_question n)) begun_three

  pub begun_one : Begun (lines (made_questions n)) first_question
  begun_one = shorter (lines (made_questions n)) first_question (line (corner_question n)) begun_two

abbrev pub relations : List ℕ
relations = codes "relation Land(n text, x, y);\nrelation Road(k text, x, y);\n"

abbrev pub view : List ℕ
view = codes "view Cross(n text, k text) := exists x exists y (Land(n, x, y) and Road(k, x, y));\n"

abbrev pub lands : ℕ → List ℕ
lands n = lines (flat_map (land_row n) (below n))

abbrev pub roads : ℕ → List ℕ
roads n = lines (map road_insert (below n))

-- what is fed up to the rectangles, up to the bands, up to the view, and all
abbrev pub to_lands : ℕ → List ℕ
to_lands n = relations ++ lands n

abbrev pub to_roads : ℕ → List ℕ
to_roads n = to_lands n ++ roads n

abbrev pub to_view : ℕ → List ℕ
to_view n = to_roads n ++ view

abbrev pub to_questions : ℕ → List ℕ
to_questions n = to_view n ++ lines (made_questions n)

setup_is : (n : ℕ) → lines (made_setup n) ≡ to_view n
unfolding made_setup
setup_is n =
    let two : List (List ℕ) = codes "relation Land(n text, x, y)" ∷ codes "relation Road(k text, x, y)" ∷ [] in
    let last : List (List ℕ) = codes "view Cross(n text, k text) := exists x exists y (Land(n, x, y) and Road(k, x, y))" ∷ [] in
    let rows = flat_map (land_row n) (below n) in
    let bands = map road_insert (below n) in
    lines_both (two ++ rows ++ bands) last
    ∙ ap (λ (l : List ℕ). l ++ view) (lines_both (two ++ rows) bands ∙ ap (λ (l : List ℕ). l ++ roads n) (lines_both two rows))

pub script_is : (n : ℕ) → made_script n ≡ to_questions n
script_is n = lines_both (made_setup n) (made_questions n) ∙ ap (λ (l : List ℕ). l ++ lines (made_questions n)) (setup_is n)

module _ (n : ℕ) where
  pub script_all : Begun (made_script n) (to_questions n)
  script_all = begun_all (made_script n) (to_questions n) (script_is n)

  pub script_view : Begun (made_script n) (to_view n)
  script_view = shorter (made_script n) (to_view n) (lines (made_questions n)) script_all

  pub script_roads : Begun (made_script n) (to_roads n)
  script_roads = shorter (made_script n) (to_roads n) view script_view

  pub script_lands : Begun (made_script n) (to_lands n)
  script_lands = shorter (made_script n) (to_lands n) (roads n) script_roads

  pub script_relations : Begun (made_script n) relations
  script_relations = shorter (made_script n) relations (lands n) script_lands

-- what follows where the call was done, and where it failed
pub ok_on : {T E : Type 0} (r : Result T E) (P Q : Type 0) → (P → Q) → IfOk r (λ _. P) → IfOk r (λ _. Q)
ok_on (Ok x) P Q f p = f p
ok_on (Err e) P Q f p = tt

pub err_on : {T E : Type 0} (r : Result T E) (P Q : Type 0) → (P → Q) → OnErr r P → OnErr r Q
err_on (Ok x) P Q f p = tt
err_on (Err e) P Q f p = f p
