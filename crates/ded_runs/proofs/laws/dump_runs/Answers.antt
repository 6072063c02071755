use Rattle.std.proofs.Common.{[], ◌∷◌, arith}
use Rattle.ded_dump.specs.Entries.{dump_lines}
use Rattle.ded_runs.specs.Remade.{script_of_lines, joined_lines}
use Rattle.ded_runs.proofs.Dumping.{dumped, some_dump}
use Rattle.ded_runs.proofs.Items.{fed_script, joined_script, short_lines}
use Rattle.ded_runs.proofs.LinesBehind.{feed, joined}
use Rattle.ded_runs.proofs.Readying.{Laws}
use Rattle.ded_runs.proofs.laws.dump_runs.Goals as goal
use Rattle.ded_runs.proofs.laws.dump_runs.Goals.{After-read_tuples}

laws : After-read_tuples → Laws
laws c = record {
  words = c.read_words.ensures.relations;
  relations = c.read_lines.ensures.relations;
  inserts = c.read_lines.ensures.inserts;
  views = c.read_lines.ensures.views;
  accepted = c.read_formulas.ensures.accepted;
  level = c.read_formulas.ensures.level;
  same = c.read_tuples.ensures.same;
  bound = c.read_tuples.ensures.bound;
  sorted = c.read_tuples.ensures.sorted;
  equalities = c.read_tuples.ensures.equalities;
}

pub returns-clause-joined : goal.returns-clause-joined
returns-clause-joined c = λ limit script replies others k d small run short.
    dumped (laws c)
    c.read_lines.ensures.header c.read_lines.ensures.whole_header limit script replies k small run
    (c.formed_catalogues.ensures.run limit script replies k run) (c.read_catalogues.ensures.run limit script replies k run)
    [] joined (joined_lines (dump_lines k)) (joined_script k) (short_lines [] 65537 (omega arith) k short) d others

pub returns-clause-some : goal.returns-clause-some
returns-clause-some c = λ limit script replies k small run short.
    some_dump (laws c)
    c.read_lines.ensures.header c.read_lines.ensures.whole_header limit script replies k small run
    (c.formed_catalogues.ensures.run limit script replies k run) (c.read_catalogues.ensures.run limit script replies k run)
    (10 ∷ []) feed (script_of_lines (dump_lines k)) (fed_script k) (short_lines (10 ∷ []) 65536 (omega arith) k short)

pub returns-clause-some_joined : goal.returns-clause-some_joined
returns-clause-some_joined c = λ limit script replies k small run short.
    some_dump (laws c)
    c.read_lines.ensures.header c.read_lines.ensures.whole_header limit script replies k small run
    (c.formed_catalogues.ensures.run limit script replies k run) (c.read_catalogues.ensures.run limit script replies k run)
    [] joined (joined_lines (dump_lines k)) (joined_script k) (short_lines [] 65537 (omega arith) k short)
