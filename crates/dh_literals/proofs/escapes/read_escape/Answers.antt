use Rattle.std.proofs.Common.{lit<, refl}
use Rattle.dh_literals.proofs.EscapesRead.{first_boundary, one_letter, after_u}
use Rattle.dh_literals.proofs.escapes.read_escape.Goals as goal

pub range_from-requires : goal.range_from-requires
range_from-requires c = λ _. first_boundary c.as_bytes.result.now c.args.text.now c.in_ok-first.field-0.now 117 (lit< tt) c.utf8.text c.in_ok-first.ensures.value c.as_bytes.ensures.value c.in-117.is

pub returns-in-34 : goal.returns-in-34
returns-in-34 c = one_letter c.as_bytes.result.now c.args.text.now c.in_ok-first.field-0.now 34 34 (lit< tt) (lit< tt) (λ rest. refl) c.utf8.text c.in_ok-first.ensures.value c.as_bytes.ensures.value c.in-34.is

pub returns-in-36 : goal.returns-in-36
returns-in-36 c = one_letter c.as_bytes.result.now c.args.text.now c.in_ok-first.field-0.now 36 36 (lit< tt) (lit< tt) (λ rest. refl) c.utf8.text c.in_ok-first.ensures.value c.as_bytes.ensures.value c.in-36.is

pub returns-in-92 : goal.returns-in-92
returns-in-92 c = one_letter c.as_bytes.result.now c.args.text.now c.in_ok-first.field-0.now 92 92 (lit< tt) (lit< tt) (λ rest. refl) c.utf8.text c.in_ok-first.ensures.value c.as_bytes.ensures.value c.in-92.is

pub returns-in-47 : goal.returns-in-47
returns-in-47 c = one_letter c.as_bytes.result.now c.args.text.now c.in_ok-first.field-0.now 47 47 (lit< tt) (lit< tt) (λ rest. refl) c.utf8.text c.in_ok-first.ensures.value c.as_bytes.ensures.value c.in-47.is

pub returns-in-98 : goal.returns-in-98
returns-in-98 c = one_letter c.as_bytes.result.now c.args.text.now c.in_ok-first.field-0.now 98 8 (lit< tt) (lit< tt) (λ rest. refl) c.utf8.text c.in_ok-first.ensures.value c.as_bytes.ensures.value c.in-98.is

pub returns-in-102 : goal.returns-in-102
returns-in-102 c = one_letter c.as_bytes.result.now c.args.text.now c.in_ok-first.field-0.now 102 12 (lit< tt) (lit< tt) (λ rest. refl) c.utf8.text c.in_ok-first.ensures.value c.as_bytes.ensures.value c.in-102.is

pub returns-in-110 : goal.returns-in-110
returns-in-110 c = one_letter c.as_bytes.result.now c.args.text.now c.in_ok-first.field-0.now 110 10 (lit< tt) (lit< tt) (λ rest. refl) c.utf8.text c.in_ok-first.ensures.value c.as_bytes.ensures.value c.in-110.is

pub returns-in-114 : goal.returns-in-114
returns-in-114 c = one_letter c.as_bytes.result.now c.args.text.now c.in_ok-first.field-0.now 114 13 (lit< tt) (lit< tt) (λ rest. refl) c.utf8.text c.in_ok-first.ensures.value c.as_bytes.ensures.value c.in-114.is

pub returns-in-116 : goal.returns-in-116
returns-in-116 c = one_letter c.as_bytes.result.now c.args.text.now c.in_ok-first.field-0.now 116 9 (lit< tt) (lit< tt) (λ rest. refl) c.utf8.text c.in_ok-first.ensures.value c.as_bytes.ensures.value c.in-116.is

pub returns-in_ok-c-in-117 : goal.returns-in_ok-c-in-117
returns-in_ok-c-in-117 c = after_u c.as_bytes.result.now c.args.text.now c.range_from.result.now c.in_ok-first.field-0.now c.in_ok-c-in-117.c c.in_ok-c-in-117.len c.in_ok-first.ensures.value c.as_bytes.ensures.value c.in-117.is c.range_from.ensures.value c.in_ok-c-in-117.ensures
