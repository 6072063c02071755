-- Which words of the command line are accepted.
use Rattle.std.specs.Prelude.{◌≡◌, ℕ, ◌==◌, false, List, [], ◌∷◌, Option, None, Some, is_some, codes, if◌then◌else◌}
use Rattle.std.specs.Str.{bytes_eq}
use Rattle.clap.specs.Faults.{fault_of}
use Rattle.ded_axes.specs.WindowReading.{frame_spelled}
use Rattle.ded_figures.specs.declared.axes.Look.{Look}
use Rattle.ded_figures.specs.declared.axes.Look.TheVariants.{FirstTwo, Named, With}
use Rattle.ded_polygon.specs.Windows.{Frame, IsFrame}
use Rattle.ded_run.specs.CommandLine.{has_dashes}
use Rattle.ded_run.specs.Words.{IsNumber, LimitValue}
use Rattle.ded_draw.specs.CommandLine.{drawing, value_of}
use Rattle.ded_draw.specs.declared.words.DrawOptions.{DrawOptions}

-- the picture is 800 units wide where no value gives another width
abbrev pub WidthValue : Option (List ℕ) → ℕ → Type 0
WidthValue None width = width ≡ 800
WidthValue (Some value) width = IsNumber 10000 value width

-- ---- columns

-- both texts, with a byte before the first one, where there are two
abbrev pub with_byte : ℕ → Option (List ℕ × List ℕ) → Option (List ℕ × List ℕ)
with_byte b None = None
with_byte b (Some pair) = Some (b ∷ pair.0, pair.1)

-- what stands before the first comma and what stands behind it, where there is a comma
abbrev pub cut_at_comma : List ℕ → Option (List ℕ × List ℕ)
cut_at_comma [] = None
cut_at_comma (b ∷ bs) = if b == 44 then Some ([], bs) else with_byte b (cut_at_comma bs)

-- the two columns in order
abbrev pub two_columns : Option (List ℕ × List ℕ) → Option Look
two_columns None = None
two_columns (Some pair) = Some (Named pair.0 pair.1)

-- the two columns, of which the one of times comes first
abbrev pub time_first : List ℕ → Option (List ℕ × List ℕ) → Option Look
time_first time None = None
time_first time (Some pair) =
    if bytes_eq pair.0 time then Some (Named pair.0 pair.1) else (if bytes_eq pair.1 time then Some (Named pair.1 pair.0) else None)

-- the columns that the values of `--columns` and `--time` give
abbrev pub look_of : Option (List ℕ) → Option (List ℕ) → Option Look
look_of None None = Some FirstTwo
look_of None (Some time) = Some (With time)
look_of (Some columns) None = two_columns (cut_at_comma columns)
look_of (Some columns) (Some time) = time_first time (cut_at_comma columns)

-- ---- all of them

-- there is no window, or the one that the value spells
abbrev pub WindowValue : Option (List ℕ) → Option Frame → Type 0
WindowValue None window = window ≡ None
WindowValue (Some value) None = ⊥
WindowValue (Some value) (Some window) = IsFrame window × (frame_spelled value ≡ Some window)

-- The words are accepted, and give these options.
pub record AcceptedWords (words : List (List ℕ)) (o : DrawOptions) : Type 0 where
  pub no_dashes : has_dashes words ≡ false
  pub parsed : fault_of drawing words ≡ []
  pub limit : LimitValue (value_of (codes "limit") words) o.limit
  pub width : WidthValue (value_of (codes "size") words) o.style.width
  pub window : WindowValue (value_of (codes "window") words) o.style.window
  pub look : look_of (value_of (codes "columns") words) (value_of (codes "time") words) ≡ Some o.style.look
  pub clock : o.style.has_clock ≡ is_some (value_of (codes "time") words)

-- the words are accepted, and with the options that they give it is so
abbrev pub WithOptions : List (List ℕ) → (DrawOptions → Type 0) → Type 0
WithOptions words Fact = (o : DrawOptions) × AcceptedWords words o × Fact o
