-- What an outcome depends on: the parts of the record, and the limits, of the keys that its resolution asks.
use Rattle.std.specs.Prelude.{Option, Some, None, ◌≡◌, ℕ, suc, false, List, ◌∷◌}
use Rattle.dh_syntax.specs.declared.locations.Loc.{Loc}
use Rattle.dh_imports.specs.declared.outcomes.Why.{Why}
use Rattle.dh_imports.specs.Resolver.{Part, TextOf, unfetched, LookOf, plan, is_in, resolve}
use Rattle.dh_syntax.specs.declared.locations.Mode.{Mode}
use Rattle.dh_syntax.specs.declared.locations.Digest.{Digest}
use Rattle.dh_syntax.specs.declared.locations.Key.{Key}
use Rattle.dh_imports.specs.Records.{Record, text_at, look_at, limit_at}
use Rattle.dh_imports.specs.Keeps.{asked_by}
use Rattle.dh_imports.specs.Machine.{IsAmong}
use Rattle.dh_imports.specs.Walk.{Ask}
use Rattle.dh_syntax.specs.declared.locations.Mode.TheVariants as modes

-- the text of a location, unless it is one that is never fetched
abbrev pub part_fetched : Loc → Option Why → Option Part
part_fetched l (Some w) = None
part_fetched l None = Some (TextOf l)

-- the part of the record that a location in this mode asks for, if it asks for one
abbrev pub part_of_mode : Loc → Mode → Option Part
part_of_mode l modes.Location = None
part_of_mode l modes.Text = part_fetched l (unfetched l)
part_of_mode l modes.Code = part_fetched l (unfetched l)

-- the look that a digest asks for, or the part that the key without it does
abbrev pub part_of_digest : Key → Option Digest → Option Part
part_of_digest k (Some d) = Some (LookOf d)
part_of_digest k None = part_of_mode k.loc k.mode

-- the part of the record that a key asks for first, if it asks for one
abbrev pub part_of : Key → Option Part
part_of k = part_of_digest k k.digest

-- two records have the same there
abbrev pub HaveSame : Record → Record → Part → Type 0
HaveSame r r' (TextOf l) = text_at r l ≡ text_at r' l
HaveSame r r' (LookOf d) = look_at r d ≡ look_at r' d

-- they have the same of the key: in the part that is read of it, and its limit
pub record AgreeOn (r r' : Record) (k : Key) : Type 0 where
  pub part : (p : Part) → part_of k ≡ Some p → HaveSame r r' p
  pub limit : limit_at r k ≡ limit_at r' k

-- the keys that the resolver asks from a key below a chain, with so much to spend: that key, and from it on
pub data Asks (r : Record) : ℕ → List Key → Key → Key → Type 0 where
  itself : {n : ℕ} {chain : List Key} {k : Key} → Asks r (suc n) chain k k
  below : {n : ℕ} {chain : List Key} {k y j : Key} → is_in k chain ≡ false → IsAmong y (asked_by (resolve r n (k ∷ chain)) k (plan r k))
      → Asks r n (k ∷ chain) y j → Asks r (suc n) chain k j

-- An outcome depends on nothing but the keys that are asked: where two records agree on these, it is the same, and the same keys are asked.
abbrev pub DependsOnAsked : Type 0
DependsOnAsked =
    (r r' : Record) (n : ℕ) (chain : List Key) (k : Key) → ((j : Key) → Asks r n chain k j → AgreeOn r r' j)
    → (resolve r n chain k ≡ resolve r' n chain k) × ((j : Key) → Asks r n chain k j → Asks r' n chain k j)

-- the keys that are asked from a key on, by the outcomes that are known
pub data From (r : Record) (ask : Ask) : Key → Key → Type 0 where
  here : {k : Key} → From r ask k k
  there : {k y j : Key} → IsAmong y (asked_by ask k (plan r k)) → From r ask y j → From r ask k j
