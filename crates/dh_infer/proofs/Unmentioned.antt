-- What an argument is put into that does not mention the variable.
use Rattle.std.specs.Prelude.{◌≡◌, ◌<◌, ℕ, zero, suc, pred, Bool, true, false, Option, Some, None, option_map, IfSome, Result, IfOk, IfErr, if◌then◌else◌, refl}
use Rattle.std.proofs.Common.{ap, sym, ◌∙◌, arith, inl, subst as along}
use Rattle.std.proofs.lemmas.Result.{IfOk-weaker, IfErr-weaker}
use Rattle.dh_syntax.specs.Names.Nameless.{Core, lifted, ren, sub, first}
use Rattle.dh_syntax.specs.Typing.NamelessTyping.{mentions, down}
use Rattle.dh_syntax.specs.declared.faults.NormFault.{NormFault}
use Rattle.dh_store.specs.declared.codes.Codes.{Codes}
use Rattle.dh_store.specs.Cells.{code_core}
use Rattle.dh_store.specs.Growth.{count}
use Rattle.dh_laws.proofs.Names.Renamings.{sub-ren, sub-Bound}
use Rattle.dh_norm.specs.Answers.{IsNormal}
use Rattle.dh_types.specs.Closed.{IsClosedBelow}
use Rattle.dh_types.specs.Growing.{Grows}
use Rattle.dh_types.proofs.ClosedCores.{kept, Keeps}
use Rattle.dh_infer.specs.Inside.NormalCodes.{IsNormalCode, IsStopped}
use Rattle.dh_infer.specs.Inside.Normals.{IsLicensedHalt}
use Rattle.dh_infer.specs.Inside.Scopes.{Models}
use Rattle.dh_infer.proofs.Modelled.{models-before}

next-keeps : Keeps 0 (lifted (λ i. suc i)) (λ i. suc i)
next-keeps zero e = inl refl
next-keeps (suc i) e = absurd (omega (arith, e))

put-nothing : (a b : Core) → IsClosedBelow b → mentions 0 b ≡ false → sub (first a) b ≡ b
put-nothing a b p m =
    ap (sub (first a)) (sym (kept 0 (lifted (λ i. suc i)) (λ i. suc i) next-keeps b p m)) ∙ sub-ren (first a) (λ i. suc i) b ∙ sub-Bound b

unmentioned : (b d : Core) → Some d ≡ down b → mentions 0 b ≡ false
unmentioned b d q = by (mentions 0 b) refl q
  where
    by : (t : Bool) → mentions 0 b ≡ t → Some d ≡ (if t then None else Some (ren pred b)) → mentions 0 b ≡ false
    by true e h = absurd cc
    by false e h = e

module _ (old : Codes) (range alone : ℕ) (outside : Option ℕ) (is : outside ≡ Some alone) (there : range < count old) (closed : IsClosedBelow (code_core old range))
    (itself : IfSome outside (λ c. c ≡ range)) (view : option_map (code_core old) outside ≡ down (code_core old range)) (argument : (ℕ → Core) → Core) where
  same : alone ≡ range
  same = along (λ o. IfSome o (λ c. c ≡ range)) is itself

  stands : (g : ℕ → Core) → Models old g → sub (first (argument g)) (g range) ≡ g alone
  stands g m =
      ap (sub (first (argument g))) (m range there) ∙ put-nothing (argument g) (code_core old range) closed (unmentioned (code_core old range) (code_core old alone) (ap (option_map (code_core old)) (sym is) ∙ view))
      ∙ sym (m range there) ∙ ap g (sym same)

  pub alone-put : (new : Codes) (u l : ℕ) → Grows old new → (r : Result ℕ NormFault) → IfOk r (λ k. IsNormalCode new u l (λ g. g alone) k)
      → IfOk r (λ k. IsNormalCode new u l (λ g. sub (first (argument g)) (g range)) k)
  alone-put new u l grows r h =
      IfOk-weaker r _ _
      (λ k n. record {
        there = n.there;
        normal = λ g m. along (λ z. IsNormal u l z (g k)) (sym (stands g (models-before old new g grows m))) (n.normal g m);
      })
      h

  pub alone-stopped : (u : ℕ) (r : Result ℕ NormFault) → IfErr r (λ h. IsStopped old u (λ g. g alone) h) → IfErr r (λ h. IsStopped old u (λ g. sub (first (argument g)) (g range)) h)
  alone-stopped u r h = IfErr-weaker r _ _ (λ s n g m. along (λ z. IsLicensedHalt u z s) (sym (stands g m)) (n g m)) h
