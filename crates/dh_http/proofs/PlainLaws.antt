-- Bodies that are not in chunks.
use Rattle.std.proofs.Common.{Result, Ok, Err, IfOk, ◌≡◌, ℕ, ◌<◌, ◌≤◌, ◌⊎◌, inl, inr, min, List, [], ◌++◌, length, Bool, true, false, refl, sym, ap, ◌∙◌, arith, append-nil, subst}
use Rattle.std.proofs.lemmas.Bool.{cases_lt}
use Rattle.std.proofs.lemmas.List.{length-append}
use Rattle.std.specs.Io.KnownBytes.{IsAtEnd}
use Rattle.dh_http.specs.Bodies.{HasBody}
use Rattle.dh_http.specs.Content.{TakesBody}
use Rattle.dh_http.specs.Forms.{WhereKnown}
use Rattle.dh_http.specs.Reading.{Place, Fits, TakesAll, IsOver, ahead}
use Rattle.dh_http.specs.Reply.{most_found}
use Rattle.dh_http.specs.declared.framings.Framing.TheVariants.{ToEnd, Stated, Unclear}
use Rattle.dh_http.proofs.ContentLaws.{known_top}
use Rattle.dh_http.proofs.FormLaws.{where_known, known_first}
use Rattle.dh_http.proofs.Places.{Took_none}

over_known : (b : Place) → Fits b.left b.inbox → IsOver b.inbox → WhereKnown b (λ r. r ≡ [])
over_known b fits over = where_known b (λ r. r ≡ []) (λ left e. ap (λ x. x ++ left) over.0 ∙ subst IsAtEnd e (fits over.1))

alone : (old mid bytes : List ℕ) → mid ≡ old ++ bytes → old ≡ [] → mid ≡ bytes
alone old mid bytes e h = e ∙ ap (λ x. x ++ bytes) h

pub to_end : (a b : Place) (old mid : List ℕ) (all : Bool) → TakesAll a b old mid most_found all → old ≡ [] → TakesBody ToEnd a b mid true
to_end a b old mid true t h =
    let e : mid ≡ t.bytes = alone old mid t.bytes t.added h in (
      (t.bytes, t.took),
      omega (arith, t.enough, ap length e),
      subst (λ x. WhereKnown a (λ s. HasBody most_found ToEnd s x)) (sym e)
          (known_first a b t.bytes _ (λ r. Unit {0}) t.took (known_top (ahead b.left b.inbox)) (λ r top. inr ((r, refl), t.enough))),
    )
to_end a b old mid false t h =
    let e : mid ≡ t.bytes = alone old mid t.bytes t.added h in (
      (t.bytes, t.took),
      omega (arith, t.enough.0, ap length e),
      subst (λ x. WhereKnown a (λ s. HasBody most_found ToEnd s x)) (sym e)
          (known_first a b t.bytes _ (λ r. r ≡ []) t.took (over_known b t.took.fits t.enough.1)
          (λ r none. inl (ap (λ x. t.bytes ++ x) none ∙ append-nil t.bytes, t.enough.0))),
    )

stated_body : (n : ℕ) (bytes r : List ℕ) → length bytes ≡ min n most_found → (n < most_found) ⊎ (most_found ≤ n) → HasBody most_found (Stated n) (bytes ++ r) bytes
stated_body n bytes r h (inl k) = inl ((omega (arith, h, k), (r, refl)), omega (arith, h, k))
stated_body n bytes r h (inr k) = inr ((omega (arith, h, k), (r, refl)), omega (arith, h, k))

no_stated : (n : ℕ) (bytes r x : List ℕ) → r ≡ [] → length bytes < min n most_found → ¬ (HasBody most_found (Stated n) (bytes ++ r) x)
no_stated n bytes r x none h (inl w) =
    absurd (omega (arith, h, w.0.0, ap length none, ap length w.0.1.1, length-append bytes r, length-append x w.0.1.0))
no_stated n bytes r x none h (inr w) =
    absurd (omega (arith, h, w.1, ap length none, ap length w.0.1.1, length-append bytes r, length-append x w.0.1.0))

pub stated : (a b : Place) (old mid : List ℕ) (n want : ℕ) (all : Bool) → TakesAll a b old mid want all → want ≡ min n most_found → old ≡ []
    → TakesBody (Stated n) a b mid all
stated a b old mid n want true t w h =
    let e : mid ≡ t.bytes = alone old mid t.bytes t.added h in (
      (t.bytes, t.took),
      omega (arith, t.enough, w, ap length e),
      subst (λ x. WhereKnown a (λ s. HasBody most_found (Stated n) s x)) (sym e)
          (known_first a b t.bytes _ (λ r. Unit {0}) t.took (known_top (ahead b.left b.inbox))
          (λ r top. stated_body n t.bytes r (t.enough ∙ w) (cases_lt n most_found))),
    )
stated a b old mid n want false t w h = (
  (t.bytes, t.took),
  known_first a b t.bytes _ (λ r. r ≡ []) t.took (over_known b t.took.fits t.enough.1)
      (λ r none x. no_stated n t.bytes r x none (omega (arith, t.enough.0, w))),
)

pub stated_result : {E : Type 0} (a b : Place) (old mid : List ℕ) (n want : ℕ) (r : Result Bool E) → IfOk r (TakesAll a b old mid want) → want ≡ min n most_found → old ≡ []
    → IfOk r (TakesBody (Stated n) a b mid)
stated_result a b old mid n want (Ok k) t w h = stated a b old mid n want k t w h
stated_result a b old mid n want (Err e) t w h = tt

neither : (s x : List ℕ) → ¬ (HasBody most_found Unclear s x)
neither s x (inl w) = w.0
neither s x (inr w) = w.0

pub unclear : (p : Place) (body : List ℕ) → Fits p.left p.inbox → TakesBody Unclear p p body false
unclear p body fits = (([], Took_none p fits), where_known p _ (λ left e x. neither (p.inbox.bytes ++ left) x))
