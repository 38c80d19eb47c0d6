-- Any two outcomes that a public contract allows are equal.
use mathlib.Core.Path.{sym, ◌∙◌}
use Rattle.settled.specs.Settled.{Settled, SettledAs}
use Prim.Native.Nat.{ℕ}
use mathlib.Core.List.{List}
use Rattle.records.proofs.cubes_fault.Kinds as cubes_fault_kinds
use Rattle.records.proofs.cubes_fault.Reads as cubes_fault
use Rattle.records.proofs.clash_fault.Kinds as clash_fault_kinds
use Rattle.records.proofs.clash_fault.Reads as clash_fault
use Rattle.records.proofs.record_end.Kinds as record_end_kinds
use Rattle.records.proofs.record_end.Reads as record_end
use Rattle.records.proofs.record_fault.Kinds as record_fault_kinds
use Rattle.records.proofs.record_fault.Reads as record_fault
use Rattle.records.proofs.read.Kinds as read_kinds
use Rattle.records.proofs.read.Reads as read
use Rattle.records.proofs.summary.Kinds as summary_kinds
use Rattle.records.proofs.summary.Reads as summary
use Rattle.records.proofs.Record.on_list.Kinds as on_list_kinds
use Rattle.records.proofs.Record.on_list.Reads as on_List
use Rattle.records.proofs.Record.off_list.Kinds as off_list_kinds
use Rattle.records.proofs.Record.off_list.Reads as off_List
use Rattle.std.proofs.Common.{◌≡◌, ap, Ok, Err, IfOk}
use Rattle.std.specs.declared.result.Result.{Result}
use Rattle.std.specs.Result.{result_and, result_map_both}
use Rattle.answers.specs.declared.Answer.{Answer}
use Rattle.records.proofs.Functions.n.Kinds as n_kinds
use Rattle.records.proofs.Functions.n.Reads as n
use Rattle.records.proofs.both.Kinds as both_kinds
use Rattle.records.proofs.both.Reads as both
use Rattle.records.proofs.at_fault.Kinds as at_fault_kinds
use Rattle.records.proofs.at_fault.Reads as at_fault

pub cubes_fault_settled : Settled 1 cubes_fault_kinds.ps cubes_fault_kinds.r cubes_fault.Post
cubes_fault_settled κs a r₁ r₂ s₁ s₂ p q = p ∙ sym q

pub clash_fault_settled : Settled 2 clash_fault_kinds.ps clash_fault_kinds.r clash_fault.Post
clash_fault_settled κs a r₁ r₂ s₁ s₂ p q = p ∙ sym q

pub record_end_settled : Settled 1 record_end_kinds.ps record_end_kinds.r record_end.Post
record_end_settled κs a r₁ r₂ s₁ s₂ p q = p ∙ sym q

pub record_fault_settled : Settled 1 record_fault_kinds.ps record_fault_kinds.r record_fault.Post
record_fault_settled κs a r₁ r₂ s₁ s₂ p q = p.0 ∙ sym q.0

pub read_settled : Settled 1 read_kinds.ps read_kinds.r read.Post
read_settled κs a r₁ r₂ s₁ s₂ p q = p ∙ sym q

pub summary_settled : Settled 1 summary_kinds.ps summary_kinds.r summary.Post
summary_settled κs a r₁ r₂ s₁ s₂ p q = p ∙ sym q

-- of two functions, their bytes are seen, and where they lie: block of memory and offset
abbrev Lent : Type 0
Lent = (ℕ × ℕ) × List ℕ

both_seen : {A : Type 0} (view : A → Lent × Lent) (U : Result (Unit {0}) Answer) (f g : Lent) (r₁ r₂ : Result A Answer)
    → result_and r₁ (Ok (tt {0})) ≡ U → IfOk r₁ (λ x. (view x).0.1 ≡ f.1) → IfOk r₁ (λ x. (view x).1.1 ≡ g.1)
    → IfOk r₁ (λ x. (view x).0.0 ≡ f.0) → IfOk r₁ (λ x. (view x).1.0 ≡ g.0)
    → result_and r₂ (Ok (tt {0})) ≡ U → IfOk r₂ (λ x. (view x).0.1 ≡ f.1) → IfOk r₂ (λ x. (view x).1.1 ≡ g.1)
    → IfOk r₂ (λ x. (view x).0.0 ≡ f.0) → IfOk r₂ (λ x. (view x).1.0 ≡ g.0)
    → result_map_both view (λ a. a) r₁ ≡ result_map_both view (λ a. a) r₂
both_seen view U f g (Ok a) (Ok b) p h k m n q i j v w =
    λ t. Ok (((m ∙ sym v) t, (h ∙ sym i) t), ((n ∙ sym w) t, (k ∙ sym j) t))
both_seen view U f g (Ok a) (Err e) p h k m n q i j v w = cc
both_seen view U f g (Err d) (Ok b) p h k m n q i j v w = cc
both_seen view U f g (Err d) (Err e) p h k m n q i j v w = let same : d ≡ e = cc in ap Err same

pub both_settled : SettledAs 1 both_kinds.ps both_kinds.r (λ κs. Result (Lent × Lent) Answer)
    (λ κs x s. result_map_both (λ both. ((both.f.bytes.ref_ptr, both.f.bytes.now), (both.g.bytes.ref_ptr, both.g.bytes.now))) (λ a. a) x) both.Post
both_settled κs a r₁ r₂ s₁ s₂ p q =
    both_seen _ _ (_, _) (_, _) r₁ r₂ p.0 p.1.0 p.1.1.0 p.1.1.1.0 p.1.1.1.1.0 q.0 q.1.0 q.1.1.0 q.1.1.1.0 q.1.1.1.1.0

-- of a part that is handed back, its bytes are seen
pub on_list_settled : SettledAs 1 on_list_kinds.ps on_list_kinds.r (λ κs. List ℕ) (λ κs x s. x.now) on_List.Post
on_list_settled κs a r₁ r₂ s₁ s₂ p q = p ∙ sym q

pub off_list_settled : SettledAs 1 off_list_kinds.ps off_list_kinds.r (λ κs. List ℕ) (λ κs x s. x.now) off_List.Post
off_list_settled κs a r₁ r₂ s₁ s₂ p q = p ∙ sym q

-- and of the bytes at fault, also where they lie: block of memory and offset
pub at_fault_settled : SettledAs 1 at_fault_kinds.ps at_fault_kinds.r (λ κs. (ℕ × ℕ) × List ℕ) (λ κs x s. (x.ref_ptr, x.now)) at_fault.Post
at_fault_settled κs a r₁ r₂ s₁ s₂ p q i = ((p.memory ∙ sym q.memory) i, (p.bytes ∙ sym q.bytes) i)

pub n_settled : Settled 1 n_kinds.ps n_kinds.r n.Post
n_settled κs a r₁ r₂ s₁ s₂ p q = p.0 ∙ sym q.0
