-- Worked examples of walks and of the resolver.
use Rattle.std.specs.Prelude.{◌≡◌, ℕ, true, false, List, [], ◌∷◌, Option, Some, None, Ok, Err, codes, refl}
use Rattle.dh_syntax.specs.declared.expressions.Op.TheVariants as ops
use Rattle.dh_syntax.specs.declared.faults.ParseFault.TheVariants as parse
use Rattle.dh_syntax.specs.declared.faults.TypeFault.TheVariants as type
use Rattle.dh_syntax.specs.declared.locations.Digest.{Digest}
use Rattle.dh_syntax.specs.declared.locations.Key.{Key}
use Rattle.dh_syntax.specs.declared.locations.Loc.{Loc}
use Rattle.dh_syntax.specs.declared.locations.Loc.TheVariants as locs
use Rattle.dh_syntax.specs.declared.locations.Mode.{Mode}
use Rattle.dh_syntax.specs.declared.locations.Mode.TheVariants as mode
use Rattle.dh_syntax.specs.declared.operators.BinOp.TheVariants as bins
use Rattle.dh_syntax.specs.Names.Alpha.{alpha}
use Rattle.dh_syntax.specs.Expressions.Forms as form
use Rattle.dh_syntax.specs.Expressions.Tree.{Node, end, Term}
use Rattle.sha2.specs.Sha256.{sha256, first_words, schedule, rounds, compress, hash_after, digest_bytes}
use Rattle.dh_syntax.specs.Imports.Keys.{key_le, bare}
use Rattle.dh_imports.specs.LastStep.{compared, Compare, Text, own, last_step, located}
use Rattle.dh_imports.specs.declared.outcomes.Blame.{Blame}
use Rattle.dh_imports.specs.declared.outcomes.Origin.TheVariants.{Fetched, Cached, Made}
use Rattle.dh_imports.specs.declared.outcomes.Why.{Why}
use Rattle.dh_imports.specs.declared.outcomes.Why.TheVariants.{Differs, Parse, Typing, Norm, Missing, Https, Insane, Cors}
use Rattle.dh_imports.specs.Outcomes.{Good, Loop}
use Rattle.dh_imports.specs.declared.outcomes.Why.TheVariants as whys
use Rattle.dh_imports.specs.Records as found
use Rattle.dh_imports.specs.Records.{Record, Noted, Seen, nothing_recorded}
use Rattle.dh_imports.specs.Resolver.{TextOf, LookOf, Lacks, Has, Waits, stage, resolve}
use Rattle.dh_imports.specs.Walk.{Ask, Ready, Fails, Needs, walk, wants}

-- ---- keys, imports, texts

-- `./x`
abbrev pub here : List ℕ → Loc
here x = locs.Here (x ∷ [])

-- `http://host/x`
abbrev web : List ℕ → List ℕ → Loc
web host x = locs.Http (record { host = host; comps = x ∷ []; query = None })

-- the key of a location in this mode, without a digest
abbrev pub key : Loc → Mode → Key
key l m = record { loc = l; mode = m; digest = None }

-- the key of a location as code, without a digest
abbrev pub code : Loc → Key
code l = key l mode.Code

-- the expression that imports a key
abbrev pub import_as : Key → Term
import_as k = Node (ops.Import (record { loc = k.loc; mode = k.mode; digest = k.digest })) end

-- the expression that imports a location as code
abbrev pub import : Loc → Term
import l = import_as (code l)

-- `a + b`
abbrev pub sum : Term → Term → Term
sum a b = form.operator bins.Plus a b

-- `a ? b`
abbrev or_else : Term → Term → Term
or_else a b = form.operator bins.Fallback a b

-- `1`
abbrev pub one : Term
one = form.natural 1

-- a text that says this expression, without an allowed origin
abbrev pub says : Term → Noted
says e = found.Found [] None (Ok e)

-- a record of these texts and of no look
abbrev pub texts : List (Loc × Noted) → Record
texts ts = record nothing_recorded { texts = ts }

-- the location `./a`
abbrev pub a_ : Loc
a_ = here (codes "a")

-- the location `./b`
abbrev pub b_ : Loc
b_ = here (codes "b")

-- the location `./c`
abbrev c_ : Loc
c_ = here (codes "c")

-- no key has an outcome yet
abbrev nothing_known : Ask
nothing_known k = None

-- a key at fault for this reason
abbrev fault : Key → Why → Blame
fault k w = record { at = Some k; why = w }

-- ---- walks

-- `./a + ./b` needs the first, and wants both
first_needed : walk None nothing_known (sum (import a_) (import b_)) ≡ Needs (code a_)
first_needed = refl

both_wanted : wants None nothing_known (sum (import a_) (import b_)) ≡ code a_ ∷ code b_ ∷ []
both_wanted = refl

-- `./a ? ./b` wants the right side only once the left one has failed
left_wanted : wants None nothing_known (or_else (import a_) (import b_)) ≡ code a_ ∷ []
left_wanted = refl

-- the outcomes over a record with this fuel
abbrev by : Record → Ask
by r = resolve r 4 []

-- ---- one text

-- `./a` where `./a` says `1 + 1`
value : by (texts ((a_, says (sum one one)) ∷ [])) (code a_) ≡ Some (Good (form.natural 2) (Fetched None))
unfolding last_step
value = refl

-- where nothing is recorded, the text is lacking
lacking : stage nothing_recorded nothing_known (code a_) ≡ Lacks (TextOf a_)
lacking = refl

absent : by (texts ((a_, found.Absent) ∷ [])) (code a_) ≡ Some (own (code a_) whys.Absent)
unfolding last_step
absent = refl

not_parsed : by (texts ((a_, found.Found [] None (Err (parse.Syntax 0))) ∷ [])) (code a_) ≡ Some (own (code a_) (Parse (parse.Syntax 0)))
unfolding last_step
not_parsed = refl

ill_typed : by (texts ((a_, says (sum one (form.bool true))) ∷ [])) (code a_) ≡ Some (own (code a_) (Typing (type.Ill (record { path = []; rule = 14 }))))
unfolding last_step
ill_typed = refl

missing : by nothing_recorded (code locs.Missing) ≡ Some (own (code locs.Missing) Missing)
unfolding last_step
missing = refl

-- the location `https://h/x`
abbrev secure : Loc
secure = locs.Https (record { host = codes "h"; comps = codes "x" ∷ []; query = None })

https : by nothing_recorded (code secure) ≡ Some (own (code secure) Https)
unfolding last_step
https = refl

-- `./a as Text`, and `./a as Location`, which fetches nothing
as_text : stage (texts ((a_, found.Found (codes "hi") None (Err (parse.Syntax 0))) ∷ [])) nothing_known (key a_ mode.Text) ≡ Has (Text (codes "hi") None)
as_text = refl

as_location : by nothing_recorded (key a_ mode.Location) ≡ Some (Good (located (codes "Local") (codes "./a")) Made)
unfolding last_step
as_location = refl

-- ---- several texts

-- `./a + ./b`, where both import `./c`, which says `1`
abbrev diamond : Record
diamond = texts ((a_, says (import c_)) ∷ (b_, says (sum (import c_) one)) ∷ (c_, says one) ∷ [])

both_sides : walk None (by diamond) (sum (import a_) (import b_)) ≡ Ready (sum one (form.natural 2))
unfolding last_step
both_sides = refl

-- `./a` is `./b`, and `./b` is `./a`: both are the loop at `./a`
abbrev loop : Record
loop = texts ((a_, says (import b_)) ∷ (b_, says (import a_)) ∷ (c_, says (or_else (import b_) one)) ∷ [])

loop_from_a : by loop (code a_) ≡ Some (Loop (code a_))
unfolding last_step
loop_from_a = refl

loop_from_b : by loop (code b_) ≡ Some (Loop (code a_))
unfolding last_step
loop_from_b = refl

-- a loop is not recovered by `?`
loop_not_recovered : by loop (code c_) ≡ Some (Loop (code a_))
unfolding last_step
loop_not_recovered = refl

-- `./a ? 1` where `./a` imports `./b`, which is absent; and where `./a` is ill typed
recovered : walk None (by (texts ((a_, says (import b_)) ∷ (b_, found.Absent) ∷ []))) (or_else (import a_) one) ≡ Ready one
unfolding last_step
recovered = refl

not_recovered : walk None (by (texts ((a_, says (sum one (form.bool true))) ∷ []))) (or_else (import a_) one) ≡ Fails (fault (code a_) (Typing (type.Ill (record { path = []; rule = 14 }))))
unfolding last_step
not_recovered = refl

-- once `./a` is absent, `./a ? ./b` wants `./b`
right_wanted : wants None (by (texts ((a_, found.Absent) ∷ []))) (or_else (import a_) (import b_)) ≡ code b_ ∷ []
unfolding last_step
right_wanted = refl

-- ---- frozen keys

-- a digest of a single byte, which no real import has
abbrev digest : Digest
digest = record { 0 = 7 ∷ [] }

-- the key of `./a` as code, with a digest
abbrev frozen : Key
frozen = record { loc = a_; mode = mode.Code; digest = Some digest }

-- a good entry is the value, and nothing is fetched
from_cache : by (record nothing_recorded { looks = (digest, found.Good [] one) ∷ [] }) frozen ≡ Some (Good one Cached)
unfolding last_step
from_cache = refl

-- the look comes first; after a miss the key without digest is asked, and its value is compared
look_first : stage nothing_recorded nothing_known frozen ≡ Lacks (LookOf digest)
look_first = refl

-- a record in which `./a` says `1` and the cache has no entry for the digest
abbrev missed : Record
missed = record (texts ((a_, says one) ∷ [])) { looks = (digest, found.Miss) ∷ [] }

then_bare : stage missed nothing_known frozen ≡ Waits (code a_)
then_bare = refl

then_compared : stage missed (by missed) frozen ≡ Has (Compare one (Fetched None))
unfolding last_step
then_compared = refl

-- the digest of `1`: SHA-256 of the bytes 82 0F 01
abbrev one_digest : Digest
one_digest = record { 0 = 214 ∷ 13 ∷ 132 ∷ 21 ∷ 227 ∷ 110 ∷ 134 ∷ 218 ∷ 231 ∷ 244 ∷ 41 ∷ 51 ∷ 211 ∷ 176 ∷ 196 ∷ 254 ∷ 60 ∷ 162 ∷ 56 ∷ 240 ∷ 87 ∷ 251 ∷ 162 ∷ 6 ∷ 199 ∷ 233 ∷ 251 ∷ 245 ∷ 215 ∷ 132 ∷ 254 ∷ 21 ∷ [] }

same_digest : compared frozen (Some one_digest) one Made ≡ Good one Made
unfolding alpha sha256 first_words schedule rounds compress hash_after digest_bytes
same_digest = refl

other_digest : compared frozen (Some digest) one Made ≡ own frozen (Differs digest one_digest)
unfolding alpha sha256 first_words schedule rounds compress hash_after digest_bytes
other_digest = refl

-- ---- texts from the web

-- `http://h/x` imports `http://g/y`, whose text allows this origin
abbrev across : Option (List ℕ) → Record
across allow = texts ((web (codes "h") (codes "x"), says (import (web (codes "g") (codes "y")))) ∷ (web (codes "g") (codes "y"), found.Found [] allow (Ok one)) ∷ [])

not_allowed : by (across None) (code (web (codes "h") (codes "x"))) ≡ Some (own (code (web (codes "h") (codes "x"))) (Cors (web (codes "g") (codes "y"))))
unfolding last_step
not_allowed = refl

allowed_to_all : by (across (Some (codes "*"))) (code (web (codes "h") (codes "x"))) ≡ Some (Good one (Fetched None))
unfolding last_step
allowed_to_all = refl

-- a text from the web may not read `env:X`
insane : by (texts ((web (codes "h") (codes "x"), says (import (locs.Env (codes "X")))) ∷ [])) (code (web (codes "h") (codes "x"))) ≡ Some (own (code (web (codes "h") (codes "x"))) (Insane (locs.Env (codes "X"))))
unfolding last_step
insane = refl

-- ---- the order of keys

bare_first : key_le (bare frozen) frozen ≡ true
bare_first = refl

frozen_later : key_le frozen (bare frozen) ≡ false
frozen_later = refl
