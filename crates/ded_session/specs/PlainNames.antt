-- Names as the grammar spells them: words that begin with a letter.
use Rattle.std.specs.Prelude.{ℕ, List}
use Rattle.std.specs.List.{AllByRecursion}
use Rattle.ded_lex.specs.Lexemes.{BeginsWith, Each, letter_byte, word_byte}
use Rattle.ded_model.specs.declared.name.Column.{Column}
use Rattle.ded_model.specs.Catalogue.{Entry, Catalogue, entry_name, entry_columns}
use Rattle.ded_model.specs.Command.{CommandForm, header, relation, insert, delete, drop, view, keep, ask, query, show, box_of, explain, dump, disjoint, verify}
use Rattle.ded_model.specs.Form.{Form, FormAtom, compare, member}
use Rattle.ded_model.specs.Logic.{AllAtoms}
use Rattle.ded_terminals.specs.MemberNames.{IsMemberName}

-- a letter or `_`, and then letters, digits and `_`
abbrev pub IsPlainName : List ℕ → Type 0
IsPlainName n = BeginsWith letter_byte n × Each word_byte n

-- each column has such a name
abbrev pub ArePlainColumns : List Column → Type 0
ArePlainColumns = AllByRecursion (λ (c : Column). IsPlainName c.name)

-- the entry has such a name, and so has each of its columns
abbrev pub HasPlainEntry : Entry → Type 0
HasPlainEntry e = IsPlainName (entry_name e) × ArePlainColumns (entry_columns e)

-- each entry and each column of one has such a name
abbrev pub HasPlainNames : Catalogue → Type 0
HasPlainNames c = AllByRecursion HasPlainEntry c.entries

-- ---- commands

-- the name of a member is such a one, or that of the closure or of the interior of such a one; a comparison uses none
abbrev pub IsPlainUse : FormAtom → Type 0
IsPlainUse (compare l op r) = Unit {0}
IsPlainUse (member n ts) = IsMemberName n

-- each name that a formula uses is such a one, or that of the closure or of the interior of such a one
abbrev pub UsesPlainNames : Form → Type 0
UsesPlainNames f = AllAtoms IsPlainUse f

-- each name that the command gives, and each column that it names, is such a one, and each name that its formula uses may be
-- that of the closure or of the interior of such a one
abbrev pub NamesPlainly : CommandForm → Type 0
NamesPlainly header = Unit {0}
NamesPlainly (relation n h) = IsPlainName n × ArePlainColumns h
NamesPlainly (insert n fs) = IsPlainName n
NamesPlainly (delete n k) = IsPlainName n
NamesPlainly (drop n) = IsPlainName n
NamesPlainly (view n h f) = IsPlainName n × ArePlainColumns h × UsesPlainNames f
NamesPlainly (keep n) = IsPlainName n
NamesPlainly (ask f) = UsesPlainNames f
NamesPlainly (query h f) = ArePlainColumns h × UsesPlainNames f
NamesPlainly (show n) = IsPlainName n
NamesPlainly (box_of n) = IsPlainName n
NamesPlainly (explain h f) = ArePlainColumns h × UsesPlainNames f
NamesPlainly dump = Unit {0}
NamesPlainly (disjoint n m) = IsPlainName n × IsPlainName m
NamesPlainly (verify n m es) = IsPlainName n × IsPlainName m
