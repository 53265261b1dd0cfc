use Rattle.std.specs.Prelude.{◌≡◌, Some, length}
use Rattle.std.proofs.Common.{ap, sym, ◌∙◌, arith, subst as along}
use Rattle.dh_syntax.specs.declared.locations.Key.{Key}
use Rattle.dh_record.specs.Values.{HasValue}
use Rattle.dh_record.proofs.DueItems.{valued_at}
use Rattle.dh_record.proofs.KeptEntries.{one_entry, valued_here}
use Rattle.dh_record.proofs.Reading.{key_at_names}
use Rattle.dh_record.proofs.keeps.kept.entry_of.Goals as goal

pub encoded-requires : goal.encoded-requires
encoded-requires c = along HasValue c.in-Some-Good.field-0-is (valued_at c.args.keys.now c.args.n (Some c.in-Some-Good.field-0.now) c.requires.valued c.in-Some-Good.ensures)

pub returns-then-as_slice-gt-MOST_ENTRY_BYTES : goal.returns-then-as_slice-gt-MOST_ENTRY_BYTES
returns-then-as_slice-gt-MOST_ENTRY_BYTES c d bytes e =
    let valued = valued_here c.args.keys.now c.args.n c.in-Some-Good.field-0.now c.in-Some-Good.value c.in-Some-Good.field-0-1 c.requires.inside c.in-Some-Good.ensures c.in-Some-Good.field-0-is in
    let same = one_entry c.args.keys.now c.args.n c.in-Some-Good.value c.in-Some-Good.field-0-1 d bytes valued e in
    let size : length bytes ≡ length c.as_slice.result.now = ap length (same ∙ sym c.in_ok-bytes.ensures ∙ sym c.as_slice.ensures) in
    let small = e.small in
    let long = c.if-as_slice-gt-MOST_ENTRY_BYTES.true in
    omega arith

pub returns : goal.returns
returns c = record {
  frozen = ap (λ (k : Key). k.digest) (key_at_names c.args.keys.now c.args.n c.key.result.now c.key.ensures) ∙ c.in-Some.is;
  value = c.in-Some-Good.value;
  origin = c.in-Some-Good.field-0-1;
  valued = valued_here c.args.keys.now c.args.n c.in-Some-Good.field-0.now c.in-Some-Good.value c.in-Some-Good.field-0-1 c.requires.inside c.in-Some-Good.ensures c.in-Some-Good.field-0-is;
  bytes_are = c.in_ok-bytes.ensures;
  small = let s = ap length c.as_slice.ensures in let short = c.if-as_slice-gt-MOST_ENTRY_BYTES.false in omega arith;
}
