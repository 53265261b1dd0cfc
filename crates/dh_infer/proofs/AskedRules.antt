-- What a rule answers, by the codes as they stand.
use Rattle.std.specs.Prelude.{◌≡◌, ◌<◌, ◌≤◌, ℕ, zero, suc, List, [], ◌∷◌, map, length, Option, Some, None, option_map, IfSome, IfOk, Result, Ok, Err, slice_get, refl}
use Rattle.std.proofs.Common.{Global, Vec, ap, sym, ◌∙◌, arith, subst as along}
use Rattle.dh_syntax.specs.declared.expressions.Op.{Op}
use Rattle.dh_syntax.specs.Limits.{purse_aside}
use Rattle.dh_syntax.specs.Names.Nameless.{Core, sub}
use Rattle.dh_syntax.specs.Typing.NamelessTyping.{core_scopes}
use Rattle.dh_syntax.specs.Typing.TypeRuling.{Ruling}
use Rattle.dh_syntax.specs.Typing.TypeRulesOperators.{operator_ruling}
use Rattle.dh_syntax.specs.Typing.TypeRulesUnions.{record_ruling}
use Rattle.dh_syntax.specs.Typing.TypeViews.{first_of}
use Rattle.dh_store.specs.declared.codes.CodeKid.{CodeKid}
use Rattle.dh_store.specs.declared.codes.Codes.{Codes}
use Rattle.dh_store.specs.Cells.{code_core, AreBelow, AreKidsBelow}
use Rattle.dh_store.specs.Growth.{count}
use Rattle.dh_types.specs.declared.steps.Found.{Found}
use Rattle.dh_types.specs.declared.steps.Step.{Step}
use Rattle.dh_types.specs.declared.steps.Step.TheVariants as steps
use Rattle.dh_types.specs.Closed.{IsClosed}
use Rattle.dh_types.specs.ClosedSteps.{AreTypesClosed, IsFoundClosed}
use Rattle.dh_types.specs.Following.{normal_found, facts_of, follow, course_of}
use Rattle.dh_types.specs.Growing.{Grows}
use Rattle.dh_types.specs.Shown.{IsNode}
use Rattle.dh_types.specs.There.{IsFoundThere, IsStepThere}
use Rattle.dh_typerows.specs.Groups.{IsLabelled}
use Rattle.dh_infer.specs.declared.frames.Frame.TheVariants as frames
use Rattle.dh_infer.specs.declared.frames.State.{State}
use Rattle.dh_infer.specs.declared.frames.State.TheVariants as states
use Rattle.dh_infer.specs.declared.frames.Typer.{Typer}
use Rattle.dh_syntax.specs.declared.faults.NormFault.{NormFault}
use Rattle.dh_infer.specs.Inside.Machine.{AreAllOf, AreFoundBelow, IsPlainNode, IsReady, IsRefusal, Advances, Halts, with_frame}
use Rattle.dh_infer.specs.Inside.NormalCodes.{IsNormalCode, IsStopped}
use Rattle.dh_infer.specs.Inside.Rests.{bodies_of, op_of, rule_of, with_normal, IsStepOf}
use Rattle.dh_infer.specs.Inside.Scopes.{Models, in_scope}
use Rattle.dh_infer.specs.Inside.Turns.{code_at}
use Rattle.dh_infer.proofs.Depending.{facts-agree, map-agree}
use Rattle.dh_infer.proofs.LevelTypes.{of-closed}
use Rattle.dh_infer.proofs.Modelled.{models-itself, models-before, models-node}
use Rattle.dh_infer.proofs.Modest.{asks-low_normal, asks-low_universe}
use Rattle.dh_infer.proofs.Parting.{get-parts, part-of}
use Rattle.dh_infer.proofs.Readiness.{with_codes, ready-grown, advances-grown}
use Rattle.dh_infer.proofs.RuleSteps.{forms, forms-halts, part-found, part-halts, asks-type, no-rule}

-- ---- the first group that has a rule

first-some : {X Y : Type 0} (h : X → Y) (y : Y) (o p : Option X) → Some y ≡ option_map h o → Some y ≡ option_map h (first_of o p)
first-some h y (Some x) p e = e
first-some h y None p e = absurd cc

first-none : {X Y : Type 0} (h : X → Y) (o p : Option X) → None ≡ option_map h o → first_of o p ≡ p
first-none h (Some x) p e = absurd cc
first-none h None p e = refl

-- ---- what is there

pub found-there : (cs : Codes) (found : Found) → AreFoundBelow (count cs) found → IsFoundThere cs found
found-there cs found h = record { first = h.first; second = h.second; third = h.third }

pub found-below : (cs : Codes) (found : Found) → IsFoundThere cs found → AreFoundBelow (count cs) found
found-below cs found h = record { first = h.first; second = h.second; third = h.third }

some-later : (m n : ℕ) → m ≤ n → (o : Option ℕ) → IfSome o (λ c. c < m) → IfSome o (λ c. c < n)
some-later m n l (Some c) h = omega arith
some-later m n l None h = h

-- ---- with more codes

module _ (old new : Codes) (grows : Grows old new) where
  pub found-later : (found : Found) → IsFoundThere old found → IsFoundThere new found
  found-later found h = record {
    first = some-later (count old) (count new) grows.more found.first h.first;
    second = some-later (count old) (count new) grows.more found.second h.second;
    third = some-later (count old) (count new) grows.more found.third h.third;
  }

  pub types-closed : (cs : List ℕ) → AreBelow (count old) cs → AreTypesClosed (code_core old) cs → AreTypesClosed (code_core new) cs
  types-closed [] b h = tt
  types-closed (c ∷ cs) b h = (along IsClosed (sym (grows.cores c b.0)) h.0, types-closed cs b.1 h.1)

  one-closed : (o : Option ℕ) → IfSome o (λ c. c < count old) → IfSome o (λ c. IsClosed (code_core old c)) → IfSome o (λ c. IsClosed (code_core new c))
  one-closed (Some c) b h = along IsClosed (sym (grows.cores c b)) h
  one-closed None b h = tt

  pub found-closed : (found : Found) → IsFoundThere old found → IsFoundClosed (code_core old) found → IsFoundClosed (code_core new) found
  found-closed found b h = record {
    first = one-closed found.first b.first h.first;
    second = one-closed found.second b.second h.second;
    third = one-closed found.third b.third h.third;
  }

  module _ (op : Op) (types : List ℕ) (found : Found) (below : AreBelow (count old) types) (there : IsFoundThere old found) where
    abbrev Answers : Codes → Codes → (Op → List Core → Option (Ruling Core)) → Option Step → Type 0
    Answers cs last rule o = option_map (course_of (code_core last)) o ≡ option_map (follow (facts_of (code_core cs) found)) (rule op (map (code_core cs) types))

    -- the first group has a rule
    pub by-first : (s : Step) → Answers old new (operator_ruling core_scopes) (Some s) → Answers old new rule_of (Some s)
    by-first s h = first-some (follow (facts_of (code_core old) found)) (course_of (code_core new) s) (operator_ruling core_scopes op (map (code_core old) types)) _ h

    -- it has none
    pub by-second : (last : Codes) (o : Option Step) → Answers old new (operator_ruling core_scopes) None → Answers new last (record_ruling core_scopes) o → Answers old last rule_of o
    by-second last o none h =
        h ∙ ap (λ z. option_map (follow z) (record_ruling core_scopes op (map (code_core new) types))) (facts-agree (count old) (code_core new) (code_core old) grows.cores found (found-below old found there))
        ∙ ap (λ z. option_map (follow (facts_of (code_core old) found)) (record_ruling core_scopes op z)) (map-agree (count old) (code_core new) (code_core old) grows.cores types below)
        ∙ ap (option_map (follow (facts_of (code_core old) found)))
        (sym (first-none (follow (facts_of (code_core old) found)) (operator_ruling core_scopes op (map (code_core old) types)) (record_ruling core_scopes op (map (code_core old) types)) none))

-- ---- in the machine

course-agree : (cs : Codes) (g : ℕ → Core) → Models cs g → (o : Option Step) → IfSome o (IsStepThere cs) → option_map (course_of g) o ≡ option_map (course_of (code_core cs)) o
course-agree cs g m None h = refl
course-agree cs g m (Some (steps.Takes c)) h = ap (λ z. Some (course_of (λ i. z) (steps.Takes c))) (m c h)
course-agree cs g m (Some (steps.Forms c)) h = ap (λ z. Some (course_of (λ i. z) (steps.Forms c))) (m c h)
course-agree cs g m (Some (steps.Refuses r)) h = refl
course-agree cs g m (Some (steps.WantsNormal k)) h = refl
course-agree cs g m (Some (steps.WantsUniverse k)) h = refl

all-closed : (n : ℕ) (f : ℕ → Core) (cs : List ℕ) → AreAllOf n (map f cs) → AreTypesClosed f cs
all-closed n f [] h = tt
all-closed n f (c ∷ cs) h = (of-closed n (f c) h.0, all-closed n f cs h.1)

module _ (m : Typer) (k : ℕ) (us : Vec ℕ Global) (found : Found) (ready : IsReady m (states.Rule k us found)) where
  abbrev here : ℕ → Core
  here = code_core m.codes

  pub rule-node : IsPlainNode here k
  rule-node = (ready.sound here (models-itself m.codes)).state.0

  pub rule-labelled : (op : Op) → op ≡ op_of (here k) → IsLabelled op (length us.items)
  rule-labelled op e = along (λ o. IsLabelled o (length us.items)) (sym e) (ready.sound here (models-itself m.codes)).state.4

  pub rule-types : AreTypesClosed here us.items
  rule-types = all-closed (length (map here m.levels)) here us.items (ready.sound here (models-itself m.codes)).state.2

  pub rule-found : IsFoundClosed here found
  rule-found = record { first = known 0 found.first refl; second = known 1 found.second refl; third = known 2 found.third refl }
    where
      known : (j : ℕ) (o : Option ℕ) → normal_found found j ≡ o → IfSome o (λ c. IsClosed (here c))
      known j (Some c) p = of-closed (length (map here m.levels)) (here c) ((ready.sound here (models-itself m.codes)).state.3 j c p).3
      known j None p = tt

  -- what is answered by codes is answered by each function that gives what they stand for
  pub asked-of : (new : Codes) → Grows m.codes new → (op : Op) → op ≡ op_of (here k) → (o : Option Step) → IfSome o (IsStepThere new)
      → option_map (course_of (code_core new)) o ≡ option_map (follow (facts_of here found)) (rule_of op (map here us.items))
      → (g : ℕ → Core) → Models new g → IsStepOf g k us.items found o
  asked-of new grows op e o there h g a =
      let agree : (c : ℕ) → c < count m.codes → here c ≡ g c = λ c l. sym (models-before m.codes new g grows a c l) in
      course-agree new g a o there ∙ h
      ∙ ap (λ z. option_map (follow (facts_of here found)) (rule_of z (map here us.items))) (e ∙ ap op_of (agree k ready.state.0))
      ∙ ap (λ z. option_map (follow (facts_of here found)) (rule_of (op_of (g k)) z)) (map-agree (count m.codes) here g agree us.items ready.state.1)
      ∙ ap (λ z. option_map (follow z) (rule_of (op_of (g k)) (map g us.items))) (facts-agree (count m.codes) here g agree found ready.state.2)

  pub asked-by : {E : Type 0} (new : Codes) → Grows m.codes new → (op : Op) → op ≡ op_of (here k) → (ts : List ℕ) → ts ≡ us.items → (r : Result (Option Step) E) → IfOk r (λ o. IfSome o (IsStepThere new))
      → IfOk r (λ o. option_map (course_of (code_core new)) o ≡ option_map (follow (facts_of here found)) (rule_of op (map here ts)))
      → IfOk r (λ o. (g : ℕ → Core) → Models new g → IsStepOf g k us.items found o)
  asked-by new grows op e ts p (Ok o) there h =
      asked-of new grows op e o there (along (λ z. option_map (course_of (code_core new)) o ≡ option_map (follow (facts_of here found)) (rule_of op (map here z))) p h)
  asked-by new grows op e ts p (Err x) there h = tt

-- ---- a part of a node

map-twice : (s g : ℕ → Core) (e : Core → Core) (o : Option ℕ) → option_map e (option_map g o) ≡ option_map (λ c. e (g c)) o
map-twice s g e (Some c) = refl
map-twice s g e None = refl

codes-below : (n : ℕ) (ks : List CodeKid) (j : ℕ) → AreKidsBelow n ks → IfSome (code_at ks j) (λ c. c < n)
codes-below n [] j h = tt
codes-below n (k ∷ ks) zero h = h.0
codes-below n (k ∷ ks) (suc j) h = codes-below n ks j h.1

module _ (cs : Codes) (k : ℕ) (there : k < count cs) (plain : IsPlainNode (code_core cs) k) (op : Op) (ks : List CodeKid) (node : IsNode cs k op ks) (j : ℕ) (o : Option ℕ) (is : o ≡ code_at ks j) where
  plain-by : (g : ℕ → Core) → Models cs g → IsPlainNode g k
  plain-by g a = let (q, r, e, b) = plain in (q, r, a k there ∙ e, b)

  pub part-by : (g s : ℕ → Core) → Models cs g → slice_get (bodies_of (sub s (g k))) j ≡ option_map (λ c. sub s (g c)) o
  part-by g s a =
      get-parts g s k (plain-by g a) op ks (models-node cs g a k op ks there node) j (slice_get ks j) refl
      ∙ ap (λ z. option_map (sub s) (option_map g z)) (sym is) ∙ map-twice s g (sub s) o

  pub part-below : IfSome o (λ c. c < count cs)
  part-below = along (λ z. IfSome z (λ c. c < count cs)) (sym is) (codes-below (count cs) ks j node.there)

-- ---- the rule goes on

module _ (m : Typer) (k : ℕ) (us : Vec ℕ Global) (found : Found) (u : ℕ) (ready : IsReady m (states.Rule k us found)) where
  abbrev rule_state : State
  rule_state = states.Rule k us found

  abbrev AsksFor : Option Step → Type 0
  AsksFor o = (g : ℕ → Core) → Models m.codes g → IsStepOf g k us.items found o

  -- the same with more codes
  asked-later : (cs : Codes) → Grows m.codes cs → (o : Option Step) → AsksFor o → (g : ℕ → Core) → Models cs g → IsStepOf g k us.items found o
  asked-later cs grows o asked g a = asked g (models-before m.codes cs g grows a)

  pub formed-as : (c : ℕ) → AsksFor (Some (steps.Forms c)) → (cs : Codes) → Grows m.codes cs → (t l : ℕ) → IsNormalCode cs u l (λ g. g c) t → Advances m (with_codes cs m) rule_state (states.Typed t) u l
  formed-as c asked cs grows t l n =
      advances-grown m (with_codes cs m) cs rule_state (states.Typed t) u l grows
      (forms (with_codes cs m) k us found u (ready-grown m rule_state cs grows ready) c (asked-later cs grows (Some (steps.Forms c)) asked) t l n.there n.normal)

  pub formed-stops : (c : ℕ) → AsksFor (Some (steps.Forms c)) → (h : NormFault) → IsStopped m.codes u (λ g. g c) h → Halts m rule_state u h
  formed-stops c asked h stop = forms-halts m k us found u ready c asked h stop

  module _ (j w : ℕ) (asked : AsksFor (Some (steps.WantsNormal j)))
      (parts : (g : ℕ → Core) → Models m.codes g → slice_get (bodies_of (in_scope g m.scope k)) j ≡ Some (in_scope g m.scope w)) where
    pub wanted-as : (cs : Codes) → Grows m.codes cs → (c l : ℕ) → IsNormalCode cs u l (λ g. in_scope g m.scope w) c
        → Advances m (with_codes cs m) rule_state (states.Rule k us (with_normal found j c)) u l
    wanted-as cs grows c l n =
        advances-grown m (with_codes cs m) cs rule_state (states.Rule k us (with_normal found j c)) u l grows
        (part-found (with_codes cs m) k us found u (ready-grown m rule_state cs grows ready) j (asked-later cs grows (Some (steps.WantsNormal j)) asked)
        (λ g a. (in_scope g m.scope w, parts g (models-before m.codes cs g grows a))) c l
        (asks-low_normal (code_core m.codes) k us.items found j (asked (code_core m.codes) (models-itself m.codes)))
        n.normal
        (λ g a s. part-of (length (map g m.levels)) (in_scope g m.scope k) s.state.1 j (in_scope g m.scope w) (parts g (models-before m.codes cs g grows a)))
        n.there)

    pub wanted-stops : (h : NormFault) → IsStopped m.codes u (λ g. in_scope g m.scope w) h → Halts m rule_state u h
    wanted-stops h stop = part-halts m k us found u ready j asked (λ g a. (in_scope g m.scope w, parts g a)) h stop

  pub aside-as : (j c : ℕ) → AsksFor (Some (steps.WantsUniverse j)) → slice_get us.items j ≡ Some c
      → Advances m (with_frame (frames.Universe k j us found u) m) rule_state (states.Type c) u purse_aside
  aside-as j c asked is =
      asks-type m k us found u ready j asked c (asks-low_universe (code_core m.codes) k us.items found j (asked (code_core m.codes) (models-itself m.codes))) is

  pub unruled-as : (cs : Codes) → Grows m.codes cs → ((g : ℕ → Core) → Models cs g → IsStepOf g k us.items found None) → (s : State) → IsRefusal 56 s → Advances m (with_codes cs m) rule_state s u u
  unruled-as cs grows asked s i =
      advances-grown m (with_codes cs m) cs rule_state s u u grows (no-rule (with_codes cs m) k us found u (ready-grown m rule_state cs grows ready) asked s i)
