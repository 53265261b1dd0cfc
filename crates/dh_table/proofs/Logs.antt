-- Flights, of which the latest come first.
use Rattle.std.specs.Prelude.{◌≡◌, ◌<◌, ◌≤◌, ◌+◌, ℕ, suc, ◌-◌, min, Bool, true, false, if◌then◌else◌, not, ◌==◌, List, ◌∷◌, ◌++◌, length, map, reverse, filter, take, Option, Some, None, is_some, refl, []}
use Rattle.std.specs.Option.{option_map}
use Rattle.std.proofs.Common.{ap, sym, ◌∙◌, arith, get_or, eqb, inl, inr}
use Rattle.std.proofs.lemmas.Bool.{eq-eqb}
use Rattle.std.proofs.lemmas.Bool.Decides.{eqb_tells}
use Rattle.std.proofs.lemmas.List.{reverse-append, map-append, take_all, take_more}
use Rattle.std.proofs.lemmas.List.Elements.{filter-append}
use Rattle.dh_syntax.specs.Expressions.Numbers.{eq}
use Rattle.dh_imports.specs.Machine.{Task, without}
use Rattle.dh_imports.specs.Records.{lookup}
use Rattle.dh_syntax.proofs.NativeTests.{eq-native}
use Rattle.dh_table.specs.declared.steps.Flight.{Flight}
use Rattle.dh_table.specs.declared.steps.Job.{Job}
use Rattle.dh_record.specs.declared.rows.recorded.Entrant.{Entrant}
use Rattle.dh_table.specs.States.{flight_of, task_of}
use Rattle.dh_record.proofs.Latest.{latest, length-reverse-map, reverse-cons}

without-append : (n : ℕ) (xs ys : List (ℕ × Task)) → without n (xs ++ ys) ≡ without n xs ++ without n ys
without-append n [] ys = refl
without-append n (f ∷ xs) ys = go (eq f.0 n) (without-append n xs ys)
  where
    go : (b : Bool) → without n (xs ++ ys) ≡ without n xs ++ without n ys
        → (if b then without n (xs ++ ys) else f ∷ without n (xs ++ ys)) ≡ (if b then without n xs else f ∷ without n xs) ++ without n ys
    go true p = p
    go false p = ap (λ zs. f ∷ zs) p

-- the other serials
abbrev pub others : ℕ → Flight → Bool
others n f = not (f.serial == n)

module _ (keys : List Entrant) (n : ℕ) where
  kept : (f : Flight) (fs : List Flight) → without n (flight_of keys f ∷ []) ≡ reverse (map (flight_of keys) (filter (others n) (f ∷ [])))
  kept f fs = go (f.serial == n) (eq-native f.serial n)
    where
      go : (b : Bool) → eq f.serial n ≡ b → (if eq f.serial n then [] else flight_of keys f ∷ []) ≡ reverse (map (flight_of keys) (if not b then f ∷ [] else []))
      go true p = ap (λ c. if c then [] else flight_of keys f ∷ []) p
      go false p = ap (λ c. if c then [] else flight_of keys f ∷ []) p

  pub without-filter : (fs : List Flight) → without n (reverse (map (flight_of keys) fs)) ≡ reverse (map (flight_of keys) (filter (others n) fs))
  without-filter [] = refl
  without-filter (f ∷ fs) =
      ap (without n) (reverse-cons (flight_of keys) f fs)
      ∙ without-append n (reverse (map (flight_of keys) fs)) (flight_of keys f ∷ [])
      ∙ ap (λ xs. xs ++ without n (flight_of keys f ∷ [])) (without-filter fs)
      ∙ ap (λ xs. reverse (map (flight_of keys) (filter (others n) fs)) ++ xs) (kept f fs)
      ∙ sym (ap (λ xs. reverse (map (flight_of keys) xs)) (filter-append (others n) (f ∷ []) fs) ∙ ap reverse (map-append (flight_of keys) (filter (others n) (f ∷ [])) (filter (others n) fs)) ∙ reverse-append (map (flight_of keys) (filter (others n) (f ∷ []))) (map (flight_of keys) (filter (others n) fs)))

-- ---- the task of a serial

different : (m n : ℕ) → (m ≡ n → ⊥) → eqb m n ≡ false
different m n h = elim (eqb_tells m n) [ inl p ↦ absurd (h p.1) | inr p ↦ p.0 ]

pub no_flight : (keys : List Entrant) (n : ℕ) → option_map (task_of keys) None ≡ lookup eq (reverse (map (flight_of keys) [])) n
no_flight keys n = refl

later_flight : (keys : List Entrant) (fs : List Flight) (i n : ℕ) (d : Flight) → i < length fs
    → lookup eq (reverse (map (flight_of keys) (take (i + 1) fs))) n
    ≡ (if eq (get_or fs i d).serial n then Some (task_of keys (get_or fs i d).job) else lookup eq (reverse (map (flight_of keys) (take i fs))) n)
later_flight keys fs i n d h =
    ap (λ xs. lookup eq (reverse (map (flight_of keys) xs)) n) (take_more fs i d h)
    ∙ ap (λ xs. lookup eq xs n) (latest (flight_of keys) (take i fs) (get_or fs i d))

pub flight_found : (keys : List Entrant) (fs : List Flight) (i n : ℕ) (d : Flight) → i < length fs → (get_or fs i d).serial ≡ n
    → option_map (task_of keys) (Some (get_or fs i d).job) ≡ lookup eq (reverse (map (flight_of keys) (take (i + 1) fs))) n
flight_found keys fs i n d h p =
    sym (later_flight keys fs i n d h
    ∙ ap (λ b. if b then Some (task_of keys (get_or fs i d).job) else lookup eq (reverse (map (flight_of keys) (take i fs))) n) (eq-native (get_or fs i d).serial n ∙ eq-eqb (get_or fs i d).serial n p))

pub flight_passed : (keys : List Entrant) (fs : List Flight) (i n : ℕ) (d : Flight) (o : Option Job) → i < length fs → ((get_or fs i d).serial ≡ n → ⊥)
    → option_map (task_of keys) o ≡ lookup eq (reverse (map (flight_of keys) (take i fs))) n
    → option_map (task_of keys) o ≡ lookup eq (reverse (map (flight_of keys) (take (i + 1) fs))) n
flight_passed keys fs i n d o h p so_far =
    so_far
    ∙ sym (later_flight keys fs i n d h
    ∙ ap (λ b. if b then Some (task_of keys (get_or fs i d).job) else lookup eq (reverse (map (flight_of keys) (take i fs))) n) (eq-native (get_or fs i d).serial n ∙ different (get_or fs i d).serial n p))

pub flight_all : (keys : List Entrant) (fs : List Flight) (i n : ℕ) (o : Option Job) → length fs ≤ i
    → option_map (task_of keys) o ≡ lookup eq (reverse (map (flight_of keys) (take i fs))) n → option_map (task_of keys) o ≡ lookup eq (reverse (map (flight_of keys) fs)) n
flight_all keys fs i n o h so_far = so_far ∙ ap (λ xs. lookup eq (reverse (map (flight_of keys) xs)) n) (take_all i fs h)

-- a task that is found is in flight
pub some_flies : (keys : List Entrant) (fs : List Flight) (n : ℕ) (o : Option Job) → is_some o ≡ true → option_map (task_of keys) o ≡ lookup eq (reverse (map (flight_of keys) fs)) n
    → (t : Task) × (lookup eq (reverse (map (flight_of keys) fs)) n ≡ Some t)
some_flies keys fs n None h p = let e : ⊥ = cc in absurd e
some_flies keys fs n (Some j) h p = (task_of keys j, sym p)

-- ---- how many are in flight

without-less : (n : ℕ) (xs : List (ℕ × Task)) → length (without n xs) ≤ length xs
without-less n [] = omega arith
without-less n (f ∷ xs) = go (eq f.0 n) (without-less n xs)
  where
    go : (b : Bool) → length (without n xs) ≤ length xs → length (if b then without n xs else f ∷ without n xs) ≤ suc (length xs)
    go true h = omega arith
    go false h = omega arith

without-fewer : (n : ℕ) (xs : List (ℕ × Task)) (t : Task) → lookup eq xs n ≡ Some t → length (without n xs) < length xs
without-fewer n [] t h = let e : ⊥ = cc in absurd e
without-fewer n (f ∷ xs) t h = go (eq f.0 n) (λ k. without-fewer n xs t k) h
  where
    go : (b : Bool) → (lookup eq xs n ≡ Some t → length (without n xs) < length xs) → (if b then Some f.1 else lookup eq xs n) ≡ Some t → length (if b then without n xs else f ∷ without n xs) < suc (length xs)
    go true again k = let l = without-less n xs in omega arith
    go false again k = let l = again k in omega arith

pub fewer_flights : (keys : List Entrant) (fs fs' : List Flight) (n : ℕ) (t : Task) → fs' ≡ filter (others n) fs → lookup eq (reverse (map (flight_of keys) fs)) n ≡ Some t → length fs' < length fs
fewer_flights keys fs fs' n t p h =
    let l = without-fewer n (reverse (map (flight_of keys) fs)) t h in
    let a : length (reverse (map (flight_of keys) fs')) ≡ length (without n (reverse (map (flight_of keys) fs))) = ap length (ap (λ xs. reverse (map (flight_of keys) xs)) p ∙ sym (without-filter keys n fs)) in
    let b = length-reverse-map (flight_of keys) fs' in
    let d = length-reverse-map (flight_of keys) fs in
    omega arith

pub room_lands : (a a' cf cf' d cd h h' ch ch' r cr e : ℕ) → a' < a → a ≤ min (min (min (cf - a) (cd - d)) (min (ch - h) (cr - r))) e → cf' ≡ cf → h' ≡ h + 1 → ch ≤ ch'
    → a' ≤ min (min (min (cf' - a') (cd - d)) (min (ch' - h') (cr - r))) e
room_lands a a' cf cf' d cd h h' ch ch' r cr e less room p q l = omega arith
