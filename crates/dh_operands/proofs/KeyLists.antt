-- Keys in a row, as they stand for nested records.
use Rattle.std.proofs.Common.{◌≡◌, List, [], ◌∷◌, ◌++◌, ap, sym, ◌∙◌}
use Rattle.dh_grammar.specs.Stubs.{Part, dotted, record_part}
use Rattle.dh_making.proofs.KeyLists.{keys_push}
use Rattle.dh_making.specs.Words.{key_of, keys_on}
use Rattle.dh_making.specs.declared.words.EntryKey.{EntryKey}
use Rattle.dh_syntax.specs.Text.Derivation.{key_label, Keys}

-- `a.b.c = v` from its last key on
pub last_dotted : (ks : Keys) (old new : List EntryKey) (k : EntryKey) (p q : Part) → old ≡ new ++ k ∷ [] →
    q ≡ record_part ((key_label (key_of k), p) ∷ []) → dotted (keys_on ks new) q ≡ dotted (keys_on ks old) p
last_dotted ks old new k p q e f =
    ap (dotted (keys_on ks new)) f ∙ ap (λ j. dotted j p) (sym (keys_push ks new k)) ∙ ap (λ more. dotted (keys_on ks more) p) (sym e)
