-- A certificate has one judgement for a problem, and a saturation says one thing of an atom.
use Rattle.std.proofs.Common.{◌≡◌, ℕ, zero, suc, ◌<◌, ◌⊎◌, List, inl, inr, refl, ap, ap₂, sym, arith}
use Rattle.std.specs.Prelude.{Option, None, Some}
use Rattle.inst_logic.specs.Tree.{Tree}
use Rattle.inst_logic.specs.Clauses.{TreeClause}
use Rattle.inst_logic.specs.Derivations.{at_number}
use Rattle.inst_logic.specs.declared.clause.Problem.{Problem}
use Rattle.cert_format.specs.Certificate.{Base, Certificate, first_refutation, refutation, saturation, covered, base_of}
use Rattle.cert_format.specs.Validity.{IsFirstComplaint, IsValid, Precedes, rank, first_number, second_number}
use Rattle.cert_format.specs.declared.complaint.Complaint.{Complaint}
use Rattle.cert_format.specs.declared.complaint.Complaint.TheVariants.{Axiom, Member, Bot, Ground, Step, NotEmpty, Place, Input, Pair, Cover}
use Rattle.cert_check.specs.Firsts.{IsFirstWrong}
use Rattle.cert_front.specs.Judgements.{Passes, HasInputsOf, DiffersFirstAt, IsJudgement}
use Rattle.cert_front.specs.Replies.{IsReply}
use Rattle.cert_front.specs.declared.judgement.Judgement.{Judgement}
use Rattle.cert_front.specs.declared.judgement.Judgement.TheVariants as judgement
use Rattle.cert_front.specs.declared.reply.Reply.{Reply}
use Rattle.cert_front.specs.declared.reply.Reply.TheVariants as reply

-- one of two numbers is the smaller, or they are the same
order : (m n : ℕ) → (m ≡ n) ⊎ ((m < n) ⊎ (n < m))
order zero zero = inl refl
order zero (suc n) = inr (inl (omega arith))
order (suc m) zero = inr (inr (omega arith))
order (suc m) (suc n) = elim (order m n) [ inl e ↦ inl (ap suc e) | inr (inl l) ↦ inr (inl (omega arith)) | inr (inr g) ↦ inr (inr (omega arith)) ]

-- a complaint is known by its kind and its numbers
by_numbers : (j k : Complaint) → rank j ≡ rank k → first_number j ≡ first_number k → second_number j ≡ second_number k → j ≡ k
by_numbers (Axiom m) (Axiom n) r f s = ap Axiom f
by_numbers (Member m) (Member n) r f s = ap Member f
by_numbers Bot Bot r f s = refl
by_numbers (Ground m) (Ground n) r f s = ap Ground f
by_numbers (Step m) (Step n) r f s = ap Step f
by_numbers NotEmpty NotEmpty r f s = refl
by_numbers (Place m) (Place n) r f s = ap Place f
by_numbers (Input m) (Input n) r f s = ap Input f
by_numbers (Pair k m) (Pair l n) r f s = ap₂ Pair f s
by_numbers (Cover m) (Cover n) r f s = ap Cover f
by_numbers j k r f s = absurd (omega arith)

ordered : (j k : Complaint) → (j ≡ k) ⊎ (Precedes j k ⊎ Precedes k j)
ordered j k = elim (order (rank j) (rank k)) [ inl r ↦ by_first r (order (first_number j) (first_number k)) | inr (inl l) ↦ inr (inl (inl l)) | inr (inr g) ↦ inr (inr (inl g)) ]
  where
    by_second : rank j ≡ rank k → first_number j ≡ first_number k → (second_number j ≡ second_number k) ⊎ ((second_number j < second_number k) ⊎ (second_number k < second_number j))
        → (j ≡ k) ⊎ (Precedes j k ⊎ Precedes k j)
    by_second r f (inl s) = inl (by_numbers j k r f s)
    by_second r f (inr (inl l)) = inr (inl (inr (inr (r, f, l))))
    by_second r f (inr (inr g)) = inr (inr (inr (inr (sym r, sym f, g))))

    by_first : rank j ≡ rank k → (first_number j ≡ first_number k) ⊎ ((first_number j < first_number k) ⊎ (first_number k < first_number j)) → (j ≡ k) ⊎ (Precedes j k ⊎ Precedes k j)
    by_first r (inl f) = by_second r f (order (second_number j) (second_number k))
    by_first r (inr (inl l)) = inr (inl (inr (inl (r, l))))
    by_first r (inr (inr g)) = inr (inr (inr (inl (sym r, g))))

one_complaint : (P : Complaint → Type 0) (j k : Complaint) → IsFirstComplaint P j → IsFirstComplaint P k → j ≡ k
one_complaint P j k a b = elim (ordered j k) [ inl e ↦ e | inr (inl p) ↦ absurd (a.applies (b.first j p)) | inr (inr p) ↦ absurd (b.applies (a.first k p)) ]

one_number : (P : ℕ → Type 0) (m n : ℕ) → IsFirstWrong P m → IsFirstWrong P n → m ≡ n
one_number P m n a b = elim (order m n) [ inl e ↦ e | inr (inl l) ↦ absurd (a.applies (b.before m l)) | inr (inr g) ↦ absurd (b.applies (a.before n g)) ]

not_both : (p : Option Problem) (b : Base) (n : ℕ) → HasInputsOf p b → DiffersFirstAt p b n → ⊥
not_both None b n h d = d
not_both (Some p) b n h d = d.applies (ap (λ (cs : List TreeClause). at_number cs n) h)

same_number : (p : Option Problem) (b : Base) (m n : ℕ) → DiffersFirstAt p b m → DiffersFirstAt p b n → m ≡ n
same_number None b m n x y = absurd x
same_number (Some p) b m n x y = one_number (λ k. at_number b.inputs k ≡ at_number p.clauses k) m n x y

passes_all : (c : Certificate) → IsValid c → (k : Complaint) → Passes c k
passes_all (first_refutation r) v k = v k
passes_all (refutation r) v k = v k
passes_all (saturation s) v k = v k
passes_all (covered c) v k = v k

pub one_judgement : (p : Option Problem) (c : Certificate) (i j : Judgement) → IsJudgement p c i → IsJudgement p c j → i ≡ j
one_judgement p c judgement.Valid judgement.Valid a b = refl
one_judgement p c judgement.Valid (judgement.Problem n) a b = absurd (not_both p (base_of c) n a.0 b)
one_judgement p c judgement.Valid (judgement.Invalid k) a b = absurd (b.1.applies (passes_all c a.1 k))
one_judgement p c (judgement.Problem m) judgement.Valid a b = absurd (not_both p (base_of c) m b.0 a)
one_judgement p c (judgement.Problem m) (judgement.Problem n) a b = ap judgement.Problem (same_number p (base_of c) m n a b)
one_judgement p c (judgement.Problem m) (judgement.Invalid k) a b = absurd (not_both p (base_of c) m b.0 a)
one_judgement p c (judgement.Invalid k) judgement.Valid a b = absurd (a.1.applies (passes_all c b.1 k))
one_judgement p c (judgement.Invalid k) (judgement.Problem n) a b = absurd (not_both p (base_of c) n a.0 b)
one_judgement p c (judgement.Invalid j) (judgement.Invalid k) a b = ap judgement.Invalid (one_complaint (Passes c) j k a.1 b.1)

pub one_reply : (c : Certificate) (t : Tree) (i j : Reply) → IsReply c t i → IsReply c t j → i ≡ j
one_reply c t reply.True reply.True a b = refl
one_reply c t reply.True reply.False a b = absurd (b.1 a.1)
one_reply c t reply.True (reply.Invalid k) a b = absurd (b.applies (passes_all c a.0 k))
one_reply c t reply.False reply.True a b = absurd (a.1 b.1)
one_reply c t reply.False reply.False a b = refl
one_reply c t reply.False (reply.Invalid k) a b = absurd (b.applies (passes_all c a.0 k))
one_reply c t (reply.Invalid k) reply.True a b = absurd (a.applies (passes_all c b.0 k))
one_reply c t (reply.Invalid k) reply.False a b = absurd (a.applies (passes_all c b.0 k))
one_reply c t (reply.Invalid j) (reply.Invalid k) a b = ap reply.Invalid (one_complaint (Passes c) j k a b)

-- a judgement without a problem is one for a problem whose clauses the inputs are
pub with_problem : (p : Option Problem) (c : Certificate) (j : Judgement) → HasInputsOf p (base_of c) → IsJudgement None c j → IsJudgement p c j
with_problem p c judgement.Valid h a = (h, a.1)
with_problem p c (judgement.Problem n) h a = absurd a
with_problem p c (judgement.Invalid k) h a = (h, a.1)
