-- Whether the root is decided.
use Rattle.std.specs.Prelude.{◌≡◌, ℕ, true, false, if◌then◌else◌, List, length, Some, None, IsSome, refl}
use Rattle.std.proofs.Common.{ap, sym, ◌∙◌, subst}
use Rattle.std.proofs.lemmas.List.{length-map}
use Rattle.dh_syntax.specs.declared.locations.Key.{Key}
use Rattle.dh_imports.specs.Machine.{State, root_walk}
use Rattle.dh_imports.specs.Replay.{too_many, distinct, has_too_many, root_end, end_of}
use Rattle.dh_imports.specs.Walk.{Walked, Ready, Fails, Turns, Needs}
use Rattle.dh_demand.specs.declared.ends.Next.TheVariants as next
use Rattle.dh_demand.specs.declared.scans.Scan.{Scan}
use Rattle.dh_demand.specs.Nexts.{IsNext}
use Rattle.dh_demand.specs.Results.{Row, number_of}
use Rattle.dh_record.specs.declared.rows.recorded.Entrant.{Entrant}
use Rattle.dh_record.specs.declared.rows.recorded.Text.{Text}
use Rattle.dh_record.specs.Entering.{key_of_entrant, keys_in}
use Rattle.dh_table.specs.Tables.{IsKnown, keys_named}
use Rattle.dh_record.proofs.Distinct.{as_many}

-- a table has as many keys as its texts name
pub known_count : (root : Scan) (keys : List Entrant) (texts : List Text) → IsKnown root keys texts → length keys ≡ length (distinct (keys_named root texts))
known_count root keys texts k = sym (length-map keys key_of_entrant) ∙ as_many (keys_in keys) (keys_named root texts) k.distinct k.members

pub ends_too_many : (s : State) → has_too_many s ≡ true → IsSome (root_end s)
ends_too_many s h = subst (λ b. IsSome (if b then Some too_many else end_of (root_walk s))) (sym h) refl

pub needed : (rows : List Row) {X : Type 0} (w : Walked X) (n : ℕ) → IsNext None rows w (next.Need n) → (y : Key) × (w ≡ Needs y) × (number_of rows y ≡ Some n)
needed rows (Ready x) n h = absurd h
needed rows (Fails b) n h = absurd h
needed rows (Turns j) n h = absurd h
needed rows (Needs y) n h = (y, refl, h)

pub no_end : (s : State) (y : Key) → has_too_many s ≡ false → root_walk s ≡ Needs y → root_end s ≡ None
no_end s y h w = ap (λ b. if b then Some too_many else end_of (root_walk s)) h ∙ ap end_of w
