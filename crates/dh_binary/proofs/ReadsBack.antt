-- What is written of an expression is read as this expression, and as no other.
use Rattle.std.specs.Prelude.{◌≡◌, ℕ, ◌^◌, ◌<◌, true, false, List, [], length, Some, Ok}
use Rattle.std.proofs.Common.{sym, ◌∙◌, ap, subst}
use Rattle.dh_syntax.specs.Bytes.Binary.{enc}
use Rattle.dh_syntax.specs.Bytes.BinaryItems.{Item, single, array_of, map_of, tagged, item_marks}
use Rattle.dh_syntax.specs.Bytes.BinaryRead as old
use Rattle.dh_syntax.specs.Bytes.BinaryRead.{Begins, Reads, expression}
use Rattle.dh_syntax.specs.Expressions.Spellable.{IsSpellable}
use Rattle.dh_syntax.specs.Expressions.Tree.{Term}
use Rattle.dh_binary.specs.Stubs.{decoded}
use Rattle.dh_syntax.specs.Expressions.Values.{HasValues}
use Rattle.dh_binary.specs.Inside.Ranges.{has_values}
use Rattle.dh_binary.specs.Written.{item, WritesItem, IsSized, ReadsBack, ReadsWhatIsWritten}
use Rattle.dh_binary.proofs.BackAll.{back}
use Rattle.dh_binary.proofs.Cutting.{decodes_once}
use Rattle.dh_binary.proofs.ItemRead.{written_read}
use Rattle.dh_binary.proofs.Ranges.{values_known}
use Rattle.dh_binary.proofs.Sizes.{item_fits}
use Rattle.dh_binary.proofs.Sounds.{item_sound}
use Rattle.dh_binary.proofs.Writing.{writes}

an_expression : (i : Item) (e : Term) → (old.part false i).term ≡ Some e → expression false i ≡ Some e
an_expression (single a) e h = h
an_expression (array_of is) e h = h
an_expression (map_of ps) e h = h
an_expression (tagged t i) e h = cc

pub writes_item : (e : Term) → IsSpellable e → WritesItem e
writes_item e (w, n, l) = let h = writes e w l in h.alone

pub reads_back : (e : Term) → IsSpellable e → has_values e ≡ true → ReadsBack e
reads_back e (w, n, l) h = let b = back e w l h in an_expression (item e) e b.alone

pub is_sized : (e : Term) → IsSpellable e → length (enc e) < 2 ^ 64 → IsSized e
is_sized e s h = let l = s.2 in item_fits (item e) (item_sound e l) (subst (λ bs. length bs < 2 ^ 64) (writes_item e s) h)

-- the same where each string and each count in the item fits its head
pub reads_sized : (e : Term) → IsSpellable e → HasValues e → IsSized e → Reads (enc e) e
reads_sized e s h k = (item e, subst (λ bs. Begins bs (item_marks (item e)) []) (sym (writes_item e s)) (written_read (item e) k), reads_back e s (values_known e h.0 h.1), s.1)

pub reads_what_is_written : ReadsWhatIsWritten
reads_what_is_written e s h l = reads_sized e s h (is_sized e s l)

-- decoding takes encoding back
pub decodes_bytes : (e : Term) (bytes : List ℕ) → IsSpellable e → HasValues e → bytes ≡ enc e → length bytes < 2 ^ 64 → decoded bytes ≡ Ok e
decodes_bytes e bytes s h b l = ap decoded b ∙ sym (decodes_once (enc e) (Ok e) (reads_sized e s h (is_sized e s (subst (λ bs. length bs < 2 ^ 64) b l))))
