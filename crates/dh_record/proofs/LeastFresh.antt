-- Of the fresh keys the least of each digest, as they are found one after the other.
use Rattle.std.specs.Prelude.{◌≡◌, ◌⊎◌, ◌<◌, ◌≤◌, ◌+◌, ℕ, zero, suc, Bool, true, false, List, [], ◌∷◌, length, map, slice_set, All, Option, Some, None, refl}
use Rattle.std.specs.List.{insert}
use Rattle.std.proofs.Common.{ap, sym, ◌∙◌, subst, arith, inl, inr, get_or}
use Rattle.std.proofs.lemmas.List.{get_or-map, get_or_default, get_or_read_under, length-set, get_or-set_same, get_or-set_other}
use Rattle.std.proofs.lemmas.List.Elements.{All-get_or, All-from_get_or}
use Rattle.std.proofs.lemmas.Bool.Decides.{eqb_tells}
use Rattle.dh_syntax.specs.declared.locations.Digest.{Digest}
use Rattle.dh_syntax.specs.declared.locations.Key.{Key}
use Rattle.dh_syntax.specs.Imports.Keys.{digest_rank, key_le, texts_before}
use Rattle.dh_imports.specs.Machine.{IsAmong}
use Rattle.dh_laws.proofs.KeyOrder.{true_false, some-equal, key_le-itself, key_le-total, key_le-transitive}
use Rattle.dh_record.specs.declared.rows.recorded.Entrant.{Entrant}
use Rattle.dh_record.specs.declared.rows.recorded.Look.{Look}
use Rattle.dh_record.specs.Keeping.{IsFreshAt, AreLeast, digest_of_entrant}
use Rattle.dh_record.specs.Sorting.{Rank, rank_at, Ascends, IsPlace}
use Rattle.dh_record.specs.Rows.{nobody, key_named}
use Rattle.dh_record.proofs.RankOrder.{before_neither, before_through}
use Rattle.dh_record.proofs.SortedNumbers.{among_at, ascends_at, ascends_between, all_inserted, among_inserted, still_among}

-- ---- numbers at their places

pub among_here : (ns : List ℕ) (i : ℕ) → i < length ns → IsAmong (get_or ns i 0) ns
among_here [] i l = absurd (omega arith)
among_here (n ∷ ns) zero l = inl refl
among_here (n ∷ ns) (suc i) l = inr (among_here ns i (omega arith))

ascends_from : (ranks : List Rank) (ns : List ℕ) → ((i j : ℕ) → i < j → j < length ns → texts_before (rank_at ranks (get_or ns i 0)) (rank_at ranks (get_or ns j 0)) ≡ true) → Ascends ranks ns
ascends_from ranks [] f = tt
ascends_from ranks (n ∷ ns) f = (
  All-from_get_or (λ (m : ℕ). texts_before (rank_at ranks n) (rank_at ranks m) ≡ true) ns 0 (λ i l. f 0 (suc i) (omega arith) (omega arith)),
  ascends_from ranks ns (λ i j h l. f (suc i) (suc j) (omega arith) (omega arith)),
)

-- one number in the place of another
module _ (ns : List ℕ) (p n : ℕ) (inside : p < length ns) where
  set_here : (i : ℕ) → (i ≡ p) ⊎ (get_or (slice_set ns p n) i 0 ≡ get_or ns i 0)
  set_here i =
      elim (eqb_tells i p) [
        | inl q ↦ inl q.1
        | inr q ↦ inr (get_or-set_other ns p i n 0 q.1)
      ]

  set_there : get_or (slice_set ns p n) p 0 ≡ n
  set_there = get_or-set_same ns p n 0 inside

  all_set : (P : ℕ → Type 0) → P n → All P ns → All P (slice_set ns p n)
  all_set P h a =
      All-from_get_or P (slice_set ns p n) 0
      (λ i l.
      elim (set_here i) [
        | inl q ↦ subst P (sym (ap (λ (j : ℕ). get_or (slice_set ns p n) j 0) q ∙ set_there)) h
        | inr q ↦ subst P (sym q) (All-get_or P ns i 0 (let s = length-set ns p n in omega arith) a)
      ])

  ascends_set : (ranks : List Rank) → rank_at ranks n ≡ rank_at ranks (get_or ns p 0) → Ascends ranks ns → Ascends ranks (slice_set ns p n)
  ascends_set ranks e a =
      ascends_from ranks (slice_set ns p n)
      (λ i j h l. ap (λ (x : Rank). texts_before x (rank_at ranks (get_or (slice_set ns p n) j 0))) (same i) ∙ ap (texts_before (rank_at ranks (get_or ns i 0))) (same j) ∙ ascends_at ranks ns i j a h (let s = length-set ns p n in omega arith))
    where
      same : (i : ℕ) → rank_at ranks (get_or (slice_set ns p n) i 0) ≡ rank_at ranks (get_or ns i 0)
      same i =
          elim (set_here i) [
            | inl q ↦ ap (rank_at ranks) (ap (λ (j : ℕ). get_or (slice_set ns p n) j 0) q ∙ set_there) ∙ e ∙ ap (λ (j : ℕ). rank_at ranks (get_or ns j 0)) (sym q)
            | inr q ↦ ap (rank_at ranks) q
          ]

  among_set : IsAmong n (slice_set ns p n)
  among_set = subst (λ (m : ℕ). IsAmong m (slice_set ns p n)) set_there (among_here (slice_set ns p n) p (let s = length-set ns p n in omega arith))

  -- a number that was there is there, or was at this place
  still_set : (m : ℕ) → IsAmong m ns → IsAmong m (slice_set ns p n) ⊎ (get_or ns p 0 ≡ m)
  still_set m h =
      let a = among_at m ns h in
      elim (set_here a.0) [
        | inl q ↦ inr (ap (λ (i : ℕ). get_or ns i 0) (sym q) ∙ a.2)
        | inr q ↦ inl (subst (λ (x : ℕ). IsAmong x (slice_set ns p n)) (q ∙ a.2) (among_here (slice_set ns p n) a.0 (let s = length-set ns p n in let l = a.1 in omega arith)))
      ]

-- ---- digests by their ranks

digest_told : (d e : Option Digest) → (digest_rank d ∷ []) ≡ (digest_rank e ∷ []) → d ≡ e
digest_told d e h = sym (back d) ∙ ap (λ (x : Rank). back_of x) h ∙ back e
  where
    of_text : List ℕ → Option Digest
    of_text [] = None
    of_text (z ∷ x) = Some (record { 0 = x })

    back_of : Rank → Option Digest
    back_of [] = None
    back_of (x ∷ xs) = of_text x

    back : (d : Option Digest) → back_of (digest_rank d ∷ []) ≡ d
    back None = refl
    back (Some d) = refl

abbrev pub digests : List Entrant → List Rank
digests keys = map digest_of_entrant keys

pub digest_named : (keys : List Entrant) (n : ℕ) → n < length keys → rank_at (digests keys) n ≡ digest_rank (key_named keys n).digest ∷ []
digest_named keys n l = get_or-map digest_of_entrant keys n nobody [] l

-- the key that is read at a number
pub read_key : (keys rows : List Entrant) (n : ℕ) (e : Entrant) → rows ≡ keys → n < length keys → (get_or rows n e).key ≡ key_named keys n
read_key keys rows n e same inside = ap (λ (es : List Entrant). (get_or es n e).key) same ∙ ap (λ (x : Entrant). x.key) (get_or_default keys n e nobody inside)

abbrev pub sought_by : Key → Rank
sought_by k = digest_rank k.digest ∷ []

module _ (keys rows : List Entrant) (n : ℕ) (e : Entrant) (found more : List ℕ) (p : ℕ) (same : rows ≡ keys) (inside : n < length keys) (as_found : more ≡ found) where
  -- the place of the digest of this key
  pub place_here : IsPlace (digests rows) (sought_by (get_or rows n e).key) more p → IsPlace (digests keys) (sought_by (key_named keys n)) found p
  place_here q =
      subst (λ (es : List Entrant). IsPlace (digests es) (sought_by (key_named keys n)) found p) same
      (subst (λ (ns : List ℕ). IsPlace (digests rows) (sought_by (key_named keys n)) ns p) as_found
      (subst (λ (k : Key). IsPlace (digests rows) (sought_by k) more p) (read_key keys rows n e same inside) q))

  -- whether that digest comes before the one at its place
  pub before_here : (b : Bool) (other : ℕ) → b ≡ texts_before (sought_by (get_or rows n e).key) (rank_at (digests rows) other) → p < length found → other ≡ get_or found p other
      → texts_before (sought_by (key_named keys n)) (rank_at (digests keys) (get_or found p 0)) ≡ b
  before_here b other h there o =
      sym
      (h
      ∙ ap (λ (k : Key). texts_before (sought_by k) (rank_at (digests rows) other)) (read_key keys rows n e same inside)
      ∙ ap (λ (es : List Entrant). texts_before (sought_by (key_named keys n)) (rank_at (digests es) other)) same
      ∙ ap (λ (m : ℕ). texts_before (sought_by (key_named keys n)) (rank_at (digests keys) m)) (get_or_read_under found p (length found) other 0 o there refl))

  -- whether that key is at most the one at its place
  pub most_here : (b : Bool) (other : ℕ) (x y : Entrant) → b ≡ key_le x.key y.key → x ≡ get_or rows n x → y ≡ get_or rows other y → p < length found → other ≡ get_or found p other
      → All (λ (m : ℕ). m < length keys) found → key_le (key_named keys n) (key_named keys (get_or found p 0)) ≡ b
  most_here b other x y h q r there o a =
      let other_is : other ≡ get_or found p 0 = get_or_read_under found p (length found) other 0 o there refl in
      let here : get_or found p 0 < length keys = All-get_or (λ (m : ℕ). m < length keys) found p 0 there a in
      let own : x.key ≡ key_named keys n = ap (λ (z : Entrant). z.key) q ∙ read_key keys rows n x same inside in
      let its : y.key ≡ key_named keys (get_or found p 0) =
      ap (λ (z : Entrant). z.key) r ∙ ap (λ (m : ℕ). (get_or rows m y).key) other_is ∙ read_key keys rows (get_or found p 0) y same here in
      sym (h ∙ ap (λ (k : Key). key_le k y.key) own ∙ ap (key_le (key_named keys n)) its)

-- ---- one key more

module _ (keys : List Entrant) (looks : List Look) (marks : List Bool) (n : ℕ) (found : List ℕ) (h : AreLeast keys looks marks n found) where
  split_last : (m : ℕ) → m < n + 1 → (m < n) ⊎ (n ≡ m)
  split_last m l = grind arith

  -- it is not fresh
  pub least_skips : ((d : Digest) → ¬ IsFreshAt keys looks marks n d) → AreLeast keys looks marks (n + 1) found
  least_skips none = record {
    inside = h.inside;
    ascends = h.ascends;
    fresh = h.fresh;
    least =
        λ m d l f.
        elim (split_last m l) [
          | inl k ↦ h.least m d k f
          | inr e ↦ absurd (none d (subst (λ (x : ℕ). IsFreshAt keys looks marks x d) (sym e) f))
        ];
  }

  module _ (d : Digest) (f : IsFreshAt keys looks marks n d) (inside : n < length keys) where
    abbrev x : Rank
    x = digest_rank (key_named keys n).digest ∷ []

    -- a fresh key of this number has this digest
    own_digest : (m : ℕ) (e : Digest) → n ≡ m → IsFreshAt keys looks marks m e → d ≡ e
    own_digest m e p g = some-equal (sym f.frozen ∙ ap (λ (i : ℕ). (key_named keys i).digest) p ∙ g.frozen)

    module _ (p : ℕ) (q : IsPlace (digests keys) x found p) where
      at_inside : (i : ℕ) → i < length found → get_or found i 0 < length keys
      at_inside i l = All-get_or (λ (m : ℕ). m < length keys) found i 0 l h.inside

      -- none of its digest was found
      pub least_adds : (p < length found → texts_before x (rank_at (digests keys) (get_or found p 0)) ≡ true) → AreLeast keys looks marks (n + 1) (insert found p n)
      least_adds before = record {
        inside = all_inserted (λ (m : ℕ). m < length keys) n found p inside h.inside;
        ascends =
            ascends_between (digests keys) n found p h.ascends
            (λ i k l. ap (texts_before (rank_at (digests keys) (get_or found i 0))) (digest_named keys n inside) ∙ q.below i k)
            (λ i k l. ap (λ (y : Rank). texts_before y (rank_at (digests keys) (get_or found i 0))) (digest_named keys n inside) ∙ above i k l);
        fresh = all_inserted (λ (m : ℕ). (e : Digest) × IsFreshAt keys looks marks m e) n found p (d, f) h.fresh;
        least =
            λ m e l g.
            elim (split_last m l) [
              | inl k ↦ (let y = h.least m e k g in (y.0, still_among y.0 n found p y.1, y.2, y.3))
              | inr e' ↦
                  (n, among_inserted n found p, f.frozen ∙ ap Some (own_digest m e e' g), subst (λ (i : ℕ). key_le (key_named keys n) (key_named keys i) ≡ true) e' (key_le-itself (key_named keys n)))
            ];
      }
        where
          split_at : (i p : ℕ) → p ≤ i → (p < i) ⊎ (p ≡ i)
          split_at i p k = grind arith

          above : (i : ℕ) → p ≤ i → i < length found → texts_before x (rank_at (digests keys) (get_or found i 0)) ≡ true
          above i k l =
              elim (split_at i p k) [
                | inl j ↦ before_through x (rank_at (digests keys) (get_or found p 0)) (rank_at (digests keys) (get_or found i 0)) (before (omega arith)) (ascends_at (digests keys) found p i h.ascends j l)
                | inr e ↦ subst (λ (j : ℕ). texts_before x (rank_at (digests keys) (get_or found j 0)) ≡ true) e (before (omega arith))
              ]

      -- one of its digest was found
      module _ (there : p < length found) (not_before : texts_before x (rank_at (digests keys) (get_or found p 0)) ≡ false) where
        same_rank : rank_at (digests keys) (get_or found p 0) ≡ x
        same_rank = before_neither (rank_at (digests keys) (get_or found p 0)) x (q.above p (omega arith) there) not_before

        same_digest : (key_named keys (get_or found p 0)).digest ≡ Some d
        same_digest =
            digest_told (key_named keys (get_or found p 0)).digest (key_named keys n).digest (sym (digest_named keys (get_or found p 0) (at_inside p there)) ∙ same_rank) ∙ f.frozen

        pub least_replaces : key_le (key_named keys n) (key_named keys (get_or found p 0)) ≡ true → AreLeast keys looks marks (n + 1) (slice_set found p n)
        least_replaces le = record {
          inside = all_set found p n there (λ (m : ℕ). m < length keys) inside h.inside;
          ascends = ascends_set found p n there (digests keys) (digest_named keys n inside ∙ sym same_rank) h.ascends;
          fresh = all_set found p n there (λ (m : ℕ). (e : Digest) × IsFreshAt keys looks marks m e) (d, f) h.fresh;
          least =
              λ m e l g.
              elim (split_last m l) [
                | inl k ↦
                    let y = h.least m e k g in
                    elim (still_set found p n there y.0 y.1) [
                      | inl s ↦ (y.0, s, y.2, y.3)
                      | inr s ↦ (
                        n,
                        among_set found p n there,
                        f.frozen ∙ sym same_digest ∙ ap (λ (i : ℕ). (key_named keys i).digest) s ∙ y.2,
                        key_le-transitive (key_named keys n) (key_named keys y.0) (key_named keys m) (subst (λ (i : ℕ). key_le (key_named keys n) (key_named keys i) ≡ true) s le) y.3,
                      )
                    ]
                | inr e' ↦
                    (n, among_set found p n there, f.frozen ∙ ap Some (own_digest m e e' g), subst (λ (i : ℕ). key_le (key_named keys n) (key_named keys i) ≡ true) e' (key_le-itself (key_named keys n)))
              ];
        }

        pub least_stays : key_le (key_named keys n) (key_named keys (get_or found p 0)) ≡ false → AreLeast keys looks marks (n + 1) found
        least_stays le = record {
          inside = h.inside;
          ascends = h.ascends;
          fresh = h.fresh;
          least =
              λ m e l g.
              elim (split_last m l) [
                | inl k ↦ h.least m e k g
                | inr e' ↦ (
                  get_or found p 0,
                  among_here found p there,
                  same_digest ∙ ap Some (own_digest m e e' g),
                  subst (λ (i : ℕ). key_le (key_named keys (get_or found p 0)) (key_named keys i) ≡ true) e' other,
                )
              ];
        }
          where
            other : key_le (key_named keys (get_or found p 0)) (key_named keys n) ≡ true
            other =
                elim (key_le-total (key_named keys n) (key_named keys (get_or found p 0))) [
                  | inl t ↦ true_false t le
                  | inr t ↦ t
                ]

pub none_least : (keys : List Entrant) (looks : List Look) (marks : List Bool) → AreLeast keys looks marks 0 []
none_least keys looks marks = record {
  inside = λ k d l. absurd (omega arith);
  ascends = tt;
  fresh = λ k d l. absurd (omega arith);
  least = λ m d l f. absurd (omega arith);
}
