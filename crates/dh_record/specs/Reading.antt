-- What a table reads in its record.
use Rattle.std.specs.Prelude.{◌≡◌, ℕ, List, [], Option, Some, None, Result, Ok, Err, map, reverse}
use Rattle.dh_syntax.specs.declared.faults.ParseFault.{ParseFault}
use Rattle.dh_syntax.specs.declared.locations.Key.{Key}
use Rattle.dh_syntax.specs.declared.locations.Loc.{Loc}
use Rattle.dh_syntax.specs.Expressions.Bridge.{term}
use Rattle.dh_syntax.specs.Expressions.Tree.{Term}
use Rattle.dh_imports.specs.Records as found
use Rattle.dh_imports.specs.Records.{Record}
use Rattle.dh_imports.specs.Resolver.{TextOf, LookOf, Unknown, Now, Walks, Asks, Lacks, Has, Meets, Waits, Stage}
use Rattle.dh_imports.specs.Resolver as resolver
use Rattle.dh_demand.specs.declared.scans.Scan.{Scan}
use Rattle.dh_demand.specs.Results.{Row, number_of}
use Rattle.dh_demand.specs.Scans.{Fits, text_key}
use Rattle.dh_record.specs.declared.stage.plans.Plan.{Plan}
use Rattle.dh_record.specs.declared.stage.plans.Plan.TheVariants as plans
use Rattle.dh_record.specs.declared.kinds.Kind.TheVariants as kinds
use Rattle.dh_record.specs.declared.rows.recorded.Look.{Look}
use Rattle.dh_record.specs.declared.rows.recorded.Text.{Text}
use Rattle.dh_record.specs.declared.stage.reaches.Reach.{Reach}
use Rattle.dh_record.specs.declared.stage.reaches.Reach.TheVariants as reaches
use Rattle.dh_record.specs.Dues.{IsDueOn}
use Rattle.dh_record.specs.Rows.{noted_by, scanned, seen_by, text_of, look_of}

-- what was found at the location of a recorded text
abbrev pub noted_of : Text → found.Noted
noted_of t = noted_by t.got (scanned t.read)

-- what was seen at a recorded look into the cache
abbrev pub seen_of : Look → found.Seen
seen_of l = seen_by l.look

-- the texts and looks alone
abbrev pub record_by : List Text → List Look → Record
record_by texts looks = record { texts = reverse (map text_of texts); looks = reverse (map look_of looks); limits = [] }

-- the edges of a text fit its imports
abbrev pub IsScan : List Row → Loc → Option (Result Scan ParseFault) → Type 0
IsScan rows l None = Unit {0}
IsScan rows l (Some (Ok s)) = Fits (Some l) rows (term s.expr) s.edges
IsScan rows l (Some (Err f)) = Unit {0}

-- the edges of a recorded text fit its imports
abbrev pub IsRead : List Row → Text → Type 0
IsRead rows t = IsScan rows t.loc t.read

-- the recorded text is of this location, and its edges fit its imports
pub record IsReadAt (rows : List Row) (l : Loc) (t : Text) : Type 0 where
  pub read : IsRead rows t
  pub loc_is : t.loc ≡ l

-- ---- what is recorded for a key

-- the text of a key, with its allowed origin, is to be walked
pub record IsWalk (rows : List Row) (k : Key) (e : Term) (allow : Option (List ℕ)) (s : Scan) (a : Option (List ℕ)) : Type 0 where
  pub expr_is : e ≡ term s.expr
  pub allow_is : allow ≡ a
  pub fits : Fits (Some k.loc) rows e s.edges
  pub text_is : text_key (Some k.loc) ≡ Some k

-- the program's plan for a key is that of the resolver, with keys by their numbers
abbrev pub IsPlan : List Row → Key → resolver.Plan → Plan → Type 0
IsPlan rows k (Unknown (TextOf l)) plans.Fetch = l ≡ k.loc
IsPlan rows k (Unknown (LookOf d)) plans.Look = k.digest ≡ Some d
IsPlan rows k (Now i) (plans.Now d) = IsDueOn rows k (Has i) d
IsPlan rows k (Walks e allow) (plans.Walk s a) = IsWalk rows k e allow s.now a.now
IsPlan rows k (Asks j) (plans.Ask n) = number_of rows j ≡ Some n
IsPlan rows k _ _ = ⊥

-- the stage that a key has reached: its task is due, or it waits for the key of this number
abbrev pub IsReach : List Row → Key → Stage → Reach → Type 0
IsReach rows k (Lacks (TextOf l)) (reaches.Due kinds.Fetch) = l ≡ k.loc
IsReach rows k (Lacks (LookOf d)) (reaches.Due kinds.Look) = k.digest ≡ Some d
IsReach rows k (Has i) (reaches.Due kinds.Finish) = Unit {0}
IsReach rows k (Meets j) (reaches.Due kinds.Finish) = Unit {0}
IsReach rows k (Waits y) (reaches.Wait n) = number_of rows y ≡ Some n
IsReach rows k _ _ = ⊥

-- a key has a number
abbrev pub IsNumbered : List Row → Key → Type 0
IsNumbered rows k = (n : ℕ) × (number_of rows k ≡ Some n)
