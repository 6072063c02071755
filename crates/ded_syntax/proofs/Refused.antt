-- What is answered is the command that is spelled, or the least refusal.
use Rattle.std.proofs.Common.{◌≡◌, inl, inr, ℕ, ◌<◌, ◌≤◌, Bool, true, false, ◌||◌, List, refl, sym, ap, subst, ◌∙◌, arith, map}
use Rattle.std.specs.Prelude.{Some}
use Rattle.std.specs.List.{list_any}
use Rattle.ded_lex.specs.Lexemes.{Lexeme}
use Rattle.ded_lex.specs.Tokens.{AreLexemes}
use Rattle.ded_model.specs.declared.command.Language.{Language}
use Rattle.ded_model.specs.declared.command.Refusal.{Refusal}
use Rattle.ded_model.specs.declared.command.Refusal.TheVariants.{Syntax, LongName, LongNumber, Deep}
use Rattle.ded_model.specs.Command.{CommandForm, header, relation, insert, delete, drop, view, keep, ask, query, show, box_of, explain, dump, disjoint, verify}
use Rattle.ded_model.specs.LongRows.{is_long_atom, has_long_row}
use Rattle.ded_model.specs.Refusals.{refusal_number}
use Rattle.ded_terminals.specs.Symbols.{Symbol, symbol}
use Rattle.ded_syntax.specs.Commands.{SpellsCommand}
use Rattle.ded_syntax.specs.CommandReading.{Draft, draft_at, scans}
use Rattle.ded_syntax.specs.Drafts.{HasDraft, some_in_draft}
use Rattle.ded_terminals.specs.Literals.{exact, marked, capped_reader}
use Rattle.ded_syntax.specs.Marks.{is_marked_atom, is_unfit_atom, some_in}
use Rattle.ded_terminals.specs.Items.{is_long_name, is_long_literal, AreSymbols}
use Rattle.ded_syntax.specs.Spelling.{Spells, is_long_word, is_long_number, SomeLexeme, AppliesIn, IsLeastIn, IsRead}
use Rattle.ded_syntax.specs.Meaning.{Means}
use Rattle.ded_terminals.proofs.Binds.{some_same}
use Rattle.ded_terminals.proofs.Seen.{one_list}
use Rattle.ded_syntax.proofs.LongSymbols.{long_names, long_literals, all_alike}
use Rattle.ded_syntax.proofs.Agrees.{command_alike}
use Rattle.ded_syntax.proofs.CommandsRead.{command_read}
use Rattle.ded_syntax.proofs.CommandsSound.{command_sound}
use Rattle.ded_syntax.proofs.DraftsAlike.{means_scans, scans_means, one_meaning, draft_atoms, other_draft}
use Rattle.ded_syntax.proofs.One.{same_symbols as one_of_symbols}
use Rattle.ded_syntax.proofs.Marked.{command_exact}
use Rattle.ded_syntax.proofs.Unfit.{unfit_draft}

-- a long row of the command is one of its atoms
row_is : (c : CommandForm) → has_long_row c ≡ some_in is_long_atom c
row_is header = refl
row_is (relation n h) = refl
row_is (insert n fs) = refl
row_is (delete n k) = refl
row_is (drop n) = refl
row_is (view n h f) = refl
row_is (keep n) = refl
row_is (ask f) = refl
row_is (query h f) = refl
row_is (show n) = refl
row_is (box_of n) = refl
row_is (explain h f) = refl
row_is dump = refl
row_is (disjoint n m) = refl
row_is (verify n m es) = refl

both_ways : (b : Bool) → b ≡ true → b ≡ false → ⊥
both_ways true e f = cc
both_ways false e f = cc

module _ (language : Language) (bytes : List ℕ) where
  -- ---- Syntax

  none_below : (q : Refusal) → refusal_number q < 3 → AppliesIn q language bytes → ⊥
  none_below Syntax lt a = absurd (omega (arith, lt))
  none_below LongName lt a = absurd (omega (arith, lt))
  none_below LongNumber lt a = absurd (omega (arith, lt))
  none_below Deep lt a = absurd (omega (arith, lt))
  none_below q lt a = a

  least_syntax : AppliesIn Syntax language bytes → IsLeastIn Syntax language bytes
  least_syntax a = record { applies = a; least = λ q lt b. none_below q lt b }

  pub no_token : ((ls : List Lexeme) → AreLexemes bytes ls → ⊥) → IsLeastIn Syntax language bytes
  no_token none = least_syntax (λ c depth s. none s.lexemes s.are)

  module _ (ts : List Symbol) (are : AreSymbols language bytes ts) where
    same_symbols : (ls : List Lexeme) → AreLexemes bytes ls → map (symbol language) ls ≡ ts
    same_symbols ls h = ap (map (symbol language)) (one_list bytes ls are.lexemes h are.are) ∙ sym are.seen

    -- the symbols of the bytes spell the command
    exactly : (c : CommandForm) (depth : ℕ) → Spells language bytes c depth → SpellsCommand exact ts c depth
    exactly c depth s = subst (λ (l : List Symbol). SpellsCommand exact l c depth) (same_symbols s.lexemes s.are) s.command

    -- and are read as a draft, whatever their numbers say
    drafted : (c : CommandForm) (depth : ℕ) → Spells language bytes c depth → HasDraft capped_reader ts
    drafted c depth s =
        let r = command_read exact ts c depth (exactly c depth s) in
        other_draft exact capped_reader ts r.0 r.1 (means_scans r.0 c depth r.2)

    pub not_drafted : (HasDraft capped_reader ts → ⊥) → IsLeastIn Syntax language bytes
    not_drafted none = least_syntax (λ c depth s. none (drafted c depth s))

    module _ (d : Draft) (read : draft_at capped_reader ts ≡ Some d) where
      same_draft : (e : Draft) → draft_at capped_reader ts ≡ Some e → e ≡ d
      same_draft e f = some_same e d (sym f ∙ read)

      module _ (scanned : scans d ≡ true) where
        spells_by : (c : CommandForm) (depth : ℕ) → SpellsCommand exact ts c depth → Spells language bytes c depth
        spells_by c depth s = record { lexemes = are.lexemes; are = are.are; command = subst (λ (l : List Symbol). SpellsCommand exact l c depth) are.seen s }

        pub some_spelled : (c : CommandForm) × (depth : ℕ) × Spells language bytes c depth
        some_spelled =
            let o = other_draft capped_reader exact ts d read scanned in
            let m = scans_means o.0 o.2 in
            (m.0, m.1, spells_by m.0 m.1 (command_sound exact ts m.0 m.1 (o.0, o.1, m.2)))

        no_syntax : AppliesIn Syntax language bytes → ⊥
        no_syntax a = let s = some_spelled in a s.0 s.1 s.2

        -- ---- LongName

        long_word : SomeLexeme is_long_word bytes → list_any is_long_name ts ≡ true
        long_word s = ap (list_any is_long_name) (sym (same_symbols s.lexemes s.are)) ∙ long_names language s.lexemes ∙ s.passes

        below_name : (q : Refusal) → refusal_number q < 4 → AppliesIn q language bytes → ⊥
        below_name Syntax lt a = no_syntax a
        below_name LongName lt a = absurd (omega (arith, lt))
        below_name LongNumber lt a = absurd (omega (arith, lt))
        below_name Deep lt a = absurd (omega (arith, lt))
        below_name q lt a = a

        pub long_name : list_any is_long_name ts ≡ true → IsLeastIn LongName language bytes
        long_name e = record {
          applies = record { lexemes = are.lexemes; are = are.are; passes = sym (long_names language are.lexemes) ∙ ap (list_any is_long_name) (sym are.seen) ∙ e };
          least = λ q lt a. below_name q lt a;
        }

        module _ (short_names : list_any is_long_name ts ≡ false) where
          -- ---- LongNumber

          long_literal : SomeLexeme (is_long_number language) bytes → list_any is_long_literal ts ≡ true
          long_literal s = ap (list_any is_long_literal) (sym (same_symbols s.lexemes s.are)) ∙ long_literals language s.lexemes ∙ s.passes

          below_number : (q : Refusal) → refusal_number q < 5 → AppliesIn q language bytes → ⊥
          below_number Syntax lt a = no_syntax a
          below_number LongName lt a = both_ways (list_any is_long_name ts) (long_word a) short_names
          below_number LongNumber lt a = absurd (omega (arith, lt))
          below_number Deep lt a = absurd (omega (arith, lt))
          below_number q lt a = a

          pub has_literal : list_any is_long_literal ts ≡ true → IsLeastIn LongNumber language bytes
          has_literal e = record {
            applies = inl (record { lexemes = are.lexemes; are = are.are; passes = sym (long_literals language are.lexemes) ∙ ap (list_any is_long_literal) (sym are.seen) ∙ e });
            least = λ q lt a. below_number q lt a;
          }

          module _ (short_literals : list_any is_long_literal ts ≡ false) where
            -- what the draft stands for is spelled by the marking reader
            marked_spelled : (c : CommandForm) (depth : ℕ) → Means d c depth → SpellsCommand marked ts c depth
            marked_spelled c depth m = command_alike ts c depth (all_alike ts short_literals) (command_sound capped_reader ts c depth (d, read, m))

            -- and nothing else is
            marked_means : (c : CommandForm) (depth : ℕ) → SpellsCommand marked ts c depth → Means d c depth
            marked_means c depth s =
                let m = scans_means d scanned in
                let same = one_of_symbols marked ts m.0 c m.1 depth (marked_spelled m.0 m.1 m.2) s in
                subst (λ (k : CommandForm). Means d k depth) same.0 (subst (λ (n : ℕ). Means d m.0 n) same.1 m.2)

            has_marks : some_in_draft is_marked_atom d ≡ true → IsLeastIn LongNumber language bytes
            has_marks e =
                let m = scans_means d scanned in
                record {
                  applies = inr (inl (record {
                    lexemes = are.lexemes;
                    are = are.are;
                    command = m.0;
                    depth = m.1;
                    spells = subst (λ (l : List Symbol). SpellsCommand marked l m.0 m.1) are.seen (marked_spelled m.0 m.1 m.2);
                    long = sym (draft_atoms is_marked_atom d m.0 m.1 m.2) ∙ e;
                  }));
                  least = λ q lt a. below_number q lt a;
                }

            module _ (short_marks : some_in_draft is_marked_atom d ≡ false) where
              -- what the draft stands for is spelled
              means_spelled : (c : CommandForm) (depth : ℕ) → Means d c depth → Spells language bytes c depth
              means_spelled c depth m =
                  spells_by c depth (command_exact ts c depth (sym (draft_atoms is_marked_atom d c depth m) ∙ short_marks) (marked_spelled c depth m))

              -- and nothing else is
              spelled_means : (c : CommandForm) (depth : ℕ) → Spells language bytes c depth → Means d c depth
              spelled_means c depth s =
                  let m = scans_means d scanned in
                  let same = one_of_symbols exact ts m.0 c m.1 depth (exactly m.0 m.1 (means_spelled m.0 m.1 m.2)) (exactly c depth s) in
                  subst (λ (k : CommandForm). Means d k depth) same.0 (subst (λ (n : ℕ). Means d m.0 n) same.1 m.2)

              has_row : some_in_draft is_long_atom d ≡ true → IsLeastIn LongNumber language bytes
              has_row e =
                  let m = scans_means d scanned in
                  record {
                    applies = inr (inr (record { command = m.0; depth = m.1; spells = means_spelled m.0 m.1 m.2; long = row_is m.0 ∙ sym (draft_atoms is_long_atom d m.0 m.1 m.2) ∙ e }));
                    least = λ q lt a. below_number q lt a;
                  }

            -- literals that are too long, or a long row
            pub is_unfit : some_in_draft is_unfit_atom d ≡ true → IsLeastIn LongNumber language bytes
            is_unfit e = by (some_in_draft is_marked_atom d) refl
              where
                by : (b : Bool) → some_in_draft is_marked_atom d ≡ b → IsLeastIn LongNumber language bytes
                by true f = has_marks f
                by false f = has_row f (sym (ap (λ (b : Bool). b || some_in_draft is_long_atom d) f) ∙ sym (unfit_draft d) ∙ e)

            module _ (short_marks : some_in_draft is_marked_atom d ≡ false) (short_rows : some_in_draft is_long_atom d ≡ false) where
              no_number : AppliesIn LongNumber language bytes → ⊥
              no_number (inl s) = both_ways (list_any is_long_literal ts) (long_literal s) short_literals
              no_number (inr (inl s)) =
                  let m = marked_means s.command s.depth (subst (λ (l : List Symbol). SpellsCommand marked l s.command s.depth) (same_symbols s.lexemes s.are) s.spells) in
                  both_ways (some_in_draft is_marked_atom d) (draft_atoms is_marked_atom d s.command s.depth m ∙ s.long) short_marks
              no_number (inr (inr s)) =
                  both_ways (some_in_draft is_long_atom d) (draft_atoms is_long_atom d s.command s.depth (spelled_means short_marks s.command s.depth s.spells) ∙ sym (row_is s.command) ∙ s.long) short_rows

              -- ---- Deep

              below_deep : (q : Refusal) → refusal_number q < 6 → AppliesIn q language bytes → ⊥
              below_deep Syntax lt a = no_syntax a
              below_deep LongName lt a = both_ways (list_any is_long_name ts) (long_word a) short_names
              below_deep LongNumber lt a = no_number a
              below_deep Deep lt a = absurd (omega (arith, lt))
              below_deep q lt a = a

              pub is_deep : (c : CommandForm) (depth : ℕ) → Means d c depth → 64 < depth → IsLeastIn Deep language bytes
              is_deep c depth m above = record {
                applies = record { command = c; depth = depth; spells = means_spelled short_marks c depth m; above = above };
                least = λ q lt a. below_deep q lt a;
              }

              -- ---- the command

              module _ (c : CommandForm) (depth : ℕ) (m : Means d c depth) (low : depth ≤ 64) where
                none_applies : (q : Refusal) → AppliesIn q language bytes → ⊥
                none_applies Syntax a = no_syntax a
                none_applies LongName a = both_ways (list_any is_long_name ts) (long_word a) short_names
                none_applies LongNumber a = no_number a
                none_applies Deep a =
                    let same = one_meaning d a.command c a.depth depth (spelled_means short_marks a.command a.depth a.spells) m in
                    absurd (omega (arith, same.1, low, a.above))
                none_applies q a = a

                pub is_read : IsRead language bytes c
                is_read = record { depth = depth; spells = means_spelled short_marks c depth m; accepted = λ q a. none_applies q a }
