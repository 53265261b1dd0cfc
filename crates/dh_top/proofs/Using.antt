-- Which desks a run used.
use Rattle.std.proofs.Common.{◌≡◌, ℕ, zero, suc, ◌+◌, ◌<◌, List, map, drop, Option, Bool, true, false, true≢false, ◌||◌, if◌then◌else◌, Result, Ok, Err, refl, sym, ap, ◌∙◌, subst, arith}
use Rattle.std.specs.Prelude.{IsTrue, OnOk, OnErr, max, min}
use Rattle.std.proofs.lemmas.List.{drop-drop, drop-map}
use Rattle.dh_command.specs.declared.commands.Command.{Command}
use Rattle.dh_command.specs.declared.verbs.Verb.{Verb}
use Rattle.dh_command.specs.declared.verbs.Verb.TheVariants as verb
use Rattle.dh_command.specs.Words.{Word, command_of, takes_files, uses_desks, resolves as does_resolve}
use Rattle.dh_top.specs.Outside.{Pair, AtFirst, at_first, UsesFirst, desks_of, desks_for}

-- ---- the first desk alone was used for what is kept

rest_left : {D : Type 0} {P : D → D → Type 0} {mid after : List D} → AtFirst P mid after → drop 1 after ≡ drop 1 mid
rest_left (at_first h) = refl

both_left : {D T E : Type 0} (P Q : D → D → Type 0) (mid after : List D) (r : Result T E) → OnOk r (AtFirst P mid after) → OnErr r (AtFirst Q mid after) → drop 1 after ≡ drop 1 mid
both_left P Q mid after (Ok x) p q = rest_left p
both_left P Q mid after (Err e) p q = rest_left q

behind_first : {D : Type 0} (n : ℕ) (ds es : List D) → 0 < n → drop 1 es ≡ drop 1 ds → drop n es ≡ drop n ds
behind_first zero ds es some h = absurd (omega (arith, some))
behind_first (suc n) ds es some h =
    let next : 1 + n ≡ suc n = omega arith in
    subst (λ k. drop k es ≡ drop k ds) next (sym (drop-drop n 1 es) ∙ ap (drop n) h ∙ drop-drop n 1 ds)

map_rest : {D A : Type 0} (f : D → A) (ds es : List D) → drop 1 es ≡ drop 1 ds → drop 1 (map f es) ≡ drop 1 (map f ds)
map_rest f ds es h = drop-map f 1 es ∙ ap (λ xs. map f xs) h ∙ sym (drop-map f 1 ds)

-- ---- the workers of a command

or_left : (a b : Bool) → a ≡ true → a || b ≡ true
or_left true b h = refl
or_left false b h = absurd (true≢false (sym h))

or_right : (a b : Bool) → b ≡ true → a || b ≡ true
or_right true b h = refl
or_right false b h = h

-- what resolves the imports of its input, or of files, uses desks
pub resolving_uses : (v : Verb) → IsTrue (does_resolve v) → IsTrue (uses_desks v)
resolving_uses v h = or_left (does_resolve v) (takes_files v) h

pub batch_uses : (v : Verb) → v ≡ verb.Batch → IsTrue (uses_desks v)
batch_uses v h = or_right (does_resolve v) (takes_files v) (ap takes_files h)

used_by : (b : Bool) (m : ℕ) → b ≡ true → m ≡ (if b then m else 0)
used_by true m t = refl
used_by false m t = absurd (true≢false (sym t))

module _ {D : Type 0} (filed : D → Option (List Pair)) (c : Command) (n w : ℕ) (before mid : List D) (takes : IsTrue (uses_desks c.verb)) (is : w ≡ max 1 (min c.workers n))
    (idle : drop w mid ≡ drop w before) (same : map filed mid ≡ map filed before) where
  workers : w ≡ desks_of c n
  workers = is ∙ used_by (uses_desks c.verb) (max 1 (min c.workers n)) takes

  -- nothing was kept
  pub uses_workers : UsesFirst filed (desks_of c n) before mid
  uses_workers = subst (λ k. UsesFirst filed k before mid) workers (record { idle = idle; others = ap (drop 1) same })

  -- entries were kept at the first desk
  pub uses_keeping : {T E : Type 0} (P Q : D → D → Type 0) (after : List D) (r : Result T E) → OnOk r (AtFirst P mid after) → OnErr r (AtFirst Q mid after)
      → UsesFirst filed (desks_of c n) before after
  uses_keeping P Q after r p q =
      let rest = both_left P Q mid after r p q in
      subst (λ k. UsesFirst filed k before after) workers
      (record { idle = behind_first w mid after (omega (arith, is)) rest ∙ idle; others = map_rest filed mid after rest ∙ ap (drop 1) same })

-- a command by its words
pub uses_by_words : {D : Type 0} (filed : D → Option (List Pair)) (words : List Word) (c : Command) (n : ℕ) (before after : List D) → command_of words ≡ Ok c
    → UsesFirst filed (desks_of c n) before after → UsesFirst filed (desks_for (command_of words) n) before after
uses_by_words filed words c n before after e u = subst (λ r. UsesFirst filed (desks_for r n) before after) (sym e) u
