-- What a machine owes depends on what its codes stand for, and on no other number.
use Rattle.std.specs.Prelude.{◌≡◌, ◌<◌, ℕ, zero, suc, nat_lt, Bool, true, false, List, [], ◌∷◌, map, length, drop, Option, Some, None, option_map, option_and_then, IfSome, slice_index_or, if◌then◌else◌, refl}
use Rattle.std.proofs.Common.{ap, sym, ◌∙◌, arith, subst as along}
use Rattle.std.proofs.lemmas.Bool.Decides.{nat_tests}
use Rattle.std.proofs.Math.Path.{fun_ext}
use Rattle.dh_syntax.specs.Names.Nameless.{Core, raised, sub}
use Rattle.dh_syntax.specs.Typing.Inference.{Has}
use Rattle.dh_syntax.specs.Typing.Universes.{as_universe}
use Rattle.dh_store.specs.declared.codes.Codes.{Codes}
use Rattle.dh_store.specs.Cells.{bound, code_core, nothing, AreBelow}
use Rattle.dh_store.specs.Growth.{count}
use Rattle.dh_types.specs.declared.steps.Found.{Found}
use Rattle.dh_types.specs.Binding.{bound_in}
use Rattle.dh_types.specs.Following.{Facts, normal_found, universe_found, facts_of}
use Rattle.dh_types.specs.Growing.{Grows}
use Rattle.dh_infer.specs.declared.frames.Entry.{Entry}
use Rattle.dh_infer.specs.declared.frames.Frame.{Frame}
use Rattle.dh_infer.specs.declared.frames.Frame.TheVariants as frames
use Rattle.dh_infer.specs.declared.frames.State.{State}
use Rattle.dh_infer.specs.declared.frames.State.TheVariants as states
use Rattle.dh_infer.specs.declared.frames.Typer.{Typer}
use Rattle.dh_syntax.specs.declared.faults.NormFault.{NormFault}
use Rattle.dh_infer.specs.Inside.Debts.{whole, AreUniverses, Debt, Part, Beside, Used, Root, Comes, Goes}
use Rattle.dh_infer.specs.Inside.Machine.{debt_of, debts, outer_scope, outer_levels, AreFoundBelow, IsFrameThere, AreFramesThere, IsStateThere, IsOwed, Works, IsReady, Halts}
use Rattle.dh_infer.specs.Inside.Rests as rests
use Rattle.dh_infer.specs.Inside.Rests.{with_universe, universe_next}
use Rattle.dh_infer.specs.Inside.Scopes.{env, in_scope, below_scope, AreEntriesThere}
use Rattle.dh_infer.proofs.FoundMore.{below-with_universe}
use Rattle.dh_infer.proofs.Readiness.{with_codes}
use Rattle.dh_infer.proofs.Returning.{entries-drop, below-drop}

-- ---- equal arguments

two : {A B C : Type 0} (h : A → B → C) (a a' : A) (b b' : B) → a ≡ a' → b ≡ b' → h a b ≡ h a' b'
two h a a' b b' p q = ap (λ z. h z b) p ∙ ap (h a') q

three : {A B C D : Type 0} (h : A → B → C → D) (a a' : A) (b b' : B) (c c' : C) → a ≡ a' → b ≡ b' → c ≡ c' → h a b c ≡ h a' b' c'
three h a a' b b' c c' p q r = ap (λ z. h z b c) p ∙ two (h a') b b' c c' q r

four : {A B C D E : Type 0} (h : A → B → C → D → E) (a a' : A) (b b' : B) (c c' : C) (d d' : D) → a ≡ a' → b ≡ b' → c ≡ c' → d ≡ d' → h a b c d ≡ h a' b' c' d'
four h a a' b b' c c' d d' p q r s = ap (λ z. h z b c d) p ∙ three (h a') b b' c c' d d' q r s

abbrev facts_with : (ℕ → Option Core) → Found → Facts Core
facts_with normal found = record { normal = normal; universe = universe_found found }

outer-there : (n : ℕ) (fr : Frame) (es : List Entry) → AreEntriesThere n es → AreEntriesThere n (outer_scope fr es)
outer-there n (frames.LambdaBody x a k) es h = entries-drop n es h
outer-there n (frames.ForallRange u) es h = entries-drop n es h
outer-there n (frames.LetBody k) es h = entries-drop n es h
outer-there n fr es h = h

outer-below : (n : ℕ) (fr : Frame) (ls : List ℕ) → AreBelow n ls → AreBelow n (outer_levels fr ls)
outer-below n (frames.LambdaBody x a k) ls h = below-drop n ls h
outer-below n (frames.ForallRange u) ls h = below-drop n ls h
outer-below n fr ls h = h

-- two functions that agree below n
module _ (n : ℕ) (f g : ℕ → Core) (agree : (c : ℕ) → c < n → f c ≡ g c) where
  env-agree : (es : List Entry) → AreEntriesThere n es → env f es ≡ env g es
  env-agree [] t = refl
  env-agree (e ∷ es) t = two bound (f e.value) (g e.value) (env f es) (env g es) (agree e.value t.0.0) (env-agree es t.1)

  pub map-agree : (cs : List ℕ) → AreBelow n cs → map f cs ≡ map g cs
  map-agree [] h = refl
  map-agree (c ∷ cs) h = ap (λ z. z ∷ map f cs) (agree c h.0) ∙ ap (λ z. g c ∷ z) (map-agree cs h.1)

  option-agree : (o : Option ℕ) → IfSome o (λ c. c < n) → option_map f o ≡ option_map g o
  option-agree (Some c) h = ap Some (agree c h)
  option-agree None h = refl

  normal-agree : (found : Found) → AreFoundBelow n found → (k : ℕ) → option_map f (normal_found found k) ≡ option_map g (normal_found found k)
  normal-agree found h zero = option-agree found.first h.first
  normal-agree found h (suc zero) = option-agree found.second h.second
  normal-agree found h (suc (suc zero)) = option-agree found.third h.third
  normal-agree found h (suc (suc (suc k))) = refl

  pub facts-agree : (found : Found) → AreFoundBelow n found → facts_of f found ≡ facts_of g found
  facts-agree found h = ap (λ z. facts_with z found) (fun_ext (λ k. normal-agree found h k))

  universe-agree : (ts : List Core) (e : Core) (at : ℕ) (us : List Core) (found : Found) → AreFoundBelow n found → universe_next f ts e at us found ≡ universe_next g ts e at us found
  universe-agree ts e at us found h =
      fun_ext (λ o. ap (λ z. rests.rule_next ts e us z)
      (facts-agree (with_universe found at (option_and_then as_universe o)) (below-with_universe n found at (option_and_then as_universe o) h)))

  module _ (es : List Entry) (entries : AreEntriesThere n es) where
    scope-agree : (k : ℕ) → k < n → in_scope f es k ≡ in_scope g es k
    scope-agree k l = two sub (env f es) (env g es) (f k) (g k) (env-agree es entries) (agree k l)

    body-agree : (k : ℕ) → k < n → below_scope f es k ≡ below_scope g es k
    body-agree k l = two (λ s e. sub (raised s) e) (env f es) (env g es) (f k) (g k) (env-agree es entries) (agree k l)

    module _ (ls : List ℕ) (levels : AreBelow n ls) where
      numbered : map f ls ≡ map g ls
      numbered = map-agree ls levels

      outer-numbered : map f (drop 1 ls) ≡ map g (drop 1 ls)
      outer-numbered = map-agree (drop 1 ls) (below-drop n ls levels)

      debt-agree : (fr : Frame) → IsFrameThere n fr → debt_of f es ls fr ≡ debt_of g es ls fr
      debt-agree (frames.Function a) h = two (λ ts c. Part 0 (rests.function_next ts c)) _ _ _ _ numbered (scope-agree a h)
      debt-agree (frames.Argument t a) h = three (λ ts c d. Part 1 (rests.argument_next ts c d)) _ _ _ _ _ _ numbered (agree t h.0) (scope-agree a h.1)
      debt-agree (frames.LambdaDomain x a b) h = three (λ ts c d. Part 0 (rests.lambda_domain_next ts x c d)) _ _ _ _ _ _ numbered (scope-agree a h.0) (body-agree b h.1)
      debt-agree (frames.LambdaBody x a k) h = three (λ ts c rs. Part 1 (λ t. rests.lambda_body_next ts x c (bound_in (length rs) t))) _ _ _ _ _ _ numbered (agree a h) outer-numbered
      debt-agree (frames.ForallDomain x a b) h = three (λ ts c d. Part 0 (rests.forall_domain_next ts x c d)) _ _ _ _ _ _ numbered (scope-agree a h.0) (body-agree b h.1)
      debt-agree (frames.ForallRange u) h = two (λ ts rs. Part 1 (λ t. rests.range_next ts u (bound_in (length rs) t))) _ _ _ _ numbered outer-numbered
      debt-agree (frames.Value a b) h = three (λ ts c d. Part 0 (rests.value_next ts c d)) _ _ _ _ _ _ numbered (scope-agree a h.0) (body-agree b h.1)
      debt-agree (frames.LetAnnotation t a b) h =
          four (λ ts c d e. Part 0 (rests.let_annotation_next ts c d e)) _ _ _ _ _ _ _ _ numbered (scope-agree t h.0) (scope-agree a h.1) (body-agree b h.2)
      debt-agree (frames.LetValue t a b) h =
          four (λ ts c d e. Part 1 (rests.let_value_next ts c d e)) _ _ _ _ _ _ _ _ numbered (scope-agree t h.0) (scope-agree a h.1) (body-agree b h.2)
      debt-agree (frames.LetBody k) h = refl
      debt-agree (frames.Part k at us) h = three (λ ts e vs. Part at (rests.part_next ts e at vs)) _ _ _ _ _ _ numbered (scope-agree k h.0) (map-agree us.items h.1)
      debt-agree (frames.Universe k at us found left) h =
          three (λ ts e vs. Beside left (whole ts (slice_index_or vs at nothing)) ts vs found (universe_next f ts e at vs found)) _ _ _ _ _ _ numbered (scope-agree k h.0) (map-agree us.items h.1)
          ∙ ap (Beside left (whole (map g ls) (slice_index_or (map g us.items) at nothing)) (map g ls) (map g us.items) found)
          (universe-agree (map g ls) (in_scope g es k) at (map g us.items) found h.2)
      debt-agree (frames.CompletedType t r) h = three (λ ts c d. Part 0 (rests.completion_next ts c d)) _ _ _ _ _ _ numbered (scope-agree t h.0) (scope-agree r h.1)
      debt-agree (frames.CompletedRecord t r) h = three (λ ts c d. Part 1 (rests.completed ts c d)) _ _ _ _ _ _ numbered (scope-agree t h.0) (scope-agree r h.1)
      debt-agree frames.Completion h = refl
      debt-agree (frames.Used i) h = two (λ ts s. Used (whole ts (s i))) _ _ _ _ numbered (env-agree es entries)

      owed-agree : (root : Root) (ds : List Debt) (s : State) (u : ℕ) → IsStateThere n s → IsOwed root ds f es ls s u → IsOwed root ds g es ls s u
      owed-agree root ds (states.Type k) u h w = along (λ z. Goes root ds z u) (two (λ ts e. whole ts e) _ _ _ _ numbered (scope-agree k h)) w
      owed-agree root ds (states.Parts k at us) u h w =
          along (λ z. Goes root ds z u) (three (λ ts e vs. rests.parts_next ts e at vs) _ _ _ _ _ _ numbered (scope-agree k h.0) (map-agree us.items h.1)) w
      owed-agree root ds (states.Rule k us found) u h w = (
        along (λ z. AreUniverses z (map g us.items) found) numbered (along (λ z. AreUniverses (map f ls) z found) (map-agree us.items h.1) w.0),
        along (λ z. Goes root ds z u)
            (four (λ ts e vs facts. rests.rule_next ts e vs facts) _ _ _ _ _ _ _ _ numbered (scope-agree k h.0) (map-agree us.items h.1) (facts-agree found h.2)) w.1,
      )
      owed-agree root ds (states.Bind a b k) u h w =
          along (λ z. Goes root ds z u) (three (λ ts c d. rests.let_body ts k c d) _ _ _ _ _ _ numbered (scope-agree a h.0) (body-agree b h.1)) w
      owed-agree root ds (states.Typed t) u h w = along (λ z. Comes root ds (Has z u)) (agree t h) w
      owed-agree root ds (states.Failed d) u h w = w

  debts-agree : (es : List Entry) → AreEntriesThere n es → (ls : List ℕ) → AreBelow n ls → (fs : List Frame) → AreFramesThere n fs → debts f es ls fs ≡ debts g es ls fs
  debts-agree es e ls l [] h = refl
  debts-agree es e ls l (fr ∷ fs) h =
      ap (λ z. z ∷ debts f (outer_scope fr es) (outer_levels fr ls) fs) (debt-agree es e ls l fr h.0)
      ∙ ap (λ z. debt_of g es ls fr ∷ z) (debts-agree (outer_scope fr es) (outer-there n fr es e) (outer_levels fr ls) (outer-below n fr ls l) fs h.1)

works-agree : (m : Typer) (s : State) → IsReady m s → (f g : ℕ → Core) → ((c : ℕ) → c < count m.codes → f c ≡ g c) → (root : Root) (u : ℕ) → Works f root m s u → Works g root m s u
works-agree m s r f g h root u w =
    owed-agree (count m.codes) f g h m.scope r.entries m.levels r.levels root (debts g m.scope m.levels m.frames) s u r.state
    (along (λ z. IsOwed root z f m.scope m.levels s u) (debts-agree (count m.codes) f g h m.scope r.entries m.levels r.levels m.frames r.frames) w)

-- ---- with more codes

-- the first function below n, and what codes stand for from there on
abbrev joined : ℕ → (ℕ → Core) → Codes → ℕ → Core
joined n g cs c = if nat_lt c n then g c else code_core cs c

low : (n c : ℕ) → c < n → nat_lt c n ≡ true
low n c l = grind (arith, nat_tests)

below-of : (n c : ℕ) → nat_lt c n ≡ true → c < n
below-of n c h = grind (arith, nat_tests)

pub halts-grown : (m : Typer) (cs : Codes) (s : State) (u : ℕ) (h : NormFault) → Grows m.codes cs → IsReady m s → Halts (with_codes cs m) s u h → Halts m s u h
halts-grown m cs s u h grows ready k g a root w =
    k (joined (count m.codes) g cs) (λ c l. by c (nat_lt c (count m.codes)) refl) root
    (works-agree m s ready g (joined (count m.codes) g cs) (λ c l. sym (ap (λ b. if b then g c else code_core cs c) (low (count m.codes) c l))) root u w)
  where
    by : (c : ℕ) (b : Bool) → nat_lt c (count m.codes) ≡ b → (if b then g c else code_core cs c) ≡ code_core cs c
    by c true p = let l = below-of (count m.codes) c p in a c l ∙ sym (grows.cores c l)
    by c false p = refl
