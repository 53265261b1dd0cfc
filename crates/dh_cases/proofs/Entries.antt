-- Entries in their order, as far as they were compared.
use Rattle.std.specs.Prelude.{◌≡◌, ◌<◌, ◌+◌, ℕ, List, map, length, take}
use Rattle.std.proofs.Common.{ap, sym, ◌∙◌, get_or, subst as along}
use Rattle.std.proofs.lemmas.List.{get_or-map, length-map, take_more_same}
use Rattle.dh_cases.specs.declared.cases.Entry.{Entry}
use Rattle.dh_cases.specs.Agreeing.{pair_of}

pair-at : (es : List Entry) (i : ℕ) (e : Entry) (d : List ℕ × List ℕ) → i < length es → e ≡ get_or es i e → get_or (map pair_of es) i d ≡ pair_of e
pair-at es i e d h p = get_or-map pair_of es i e d h ∙ ap pair_of (sym p)

pub pairs-equal : (es fs : List Entry) (i : ℕ) (e f : Entry) → length es ≡ length fs → i < length es → e ≡ get_or es i e → f ≡ get_or fs i f
    → map pair_of es ≡ map pair_of fs → pair_of e ≡ pair_of f
pairs-equal es fs i e f n h p q same =
    sym (pair-at es i e (pair_of e) h p) ∙ ap (λ ps. get_or ps i (pair_of e)) same ∙ pair-at fs i f (pair_of e) (along (λ n. i < n) n h) q

pub more-equal : (es fs : List Entry) (i : ℕ) (e f : Entry) → length es ≡ length fs → i < length es → e ≡ get_or es i e → f ≡ get_or fs i f
    → pair_of e ≡ pair_of f → take i (map pair_of es) ≡ take i (map pair_of fs) → take (i + 1) (map pair_of es) ≡ take (i + 1) (map pair_of fs)
more-equal es fs i e f n h p q same so_far =
    let k : i < length fs = along (λ n. i < n) n h in
    take_more_same (map pair_of es) (map pair_of fs) i (pair_of e) (along (λ n. i < n) (sym (length-map es pair_of)) h) (along (λ n. i < n) (sym (length-map fs pair_of)) k)
    so_far (pair-at es i e (pair_of e) h p ∙ same ∙ sym (pair-at fs i f (pair_of e) k q))
