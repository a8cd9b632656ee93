use Rattle.cert_items.proofs.note.read_note.Goals as goal

pub returns-in-Input-clause-some : goal.returns-in-Input-clause-some
returns-in-Input-clause-some c = rw c.in-Input.is (c.input_note.ensures.some c.args.shape c.args.n c.args.reader.now)

pub returns-in-Input-clause-whole : goal.returns-in-Input-clause-whole
returns-in-Input-clause-whole c = c.input_note.ensures.whole _

pub returns-in-Input-clause-none : goal.returns-in-Input-clause-none
returns-in-Input-clause-none c = rw c.in-Input.is (c.input_note.ensures.none c.args.shape c.args.n)

pub returns-in-Axiom-clause-some : goal.returns-in-Axiom-clause-some
returns-in-Axiom-clause-some c = rw c.in-Axiom.is (c.axiom_note.ensures.some c.args.shape c.args.n c.args.reader.now)

pub returns-in-Axiom-clause-whole : goal.returns-in-Axiom-clause-whole
returns-in-Axiom-clause-whole c = c.axiom_note.ensures.whole _

pub returns-in-Axiom-clause-none : goal.returns-in-Axiom-clause-none
returns-in-Axiom-clause-none c = rw c.in-Axiom.is (c.axiom_note.ensures.none c.args.shape c.args.n)

pub returns-in-Member-clause-some : goal.returns-in-Member-clause-some
returns-in-Member-clause-some c = rw c.in-Member.is (c.member_note.ensures.some c.args.n c.args.reader.now)

pub returns-in-Member-clause-whole : goal.returns-in-Member-clause-whole
returns-in-Member-clause-whole c = c.member_note.ensures.whole _

pub returns-in-Member-clause-none : goal.returns-in-Member-clause-none
returns-in-Member-clause-none c = rw c.in-Member.is (c.member_note.ensures.none c.args.n)

pub returns-in-Ground-clause-some : goal.returns-in-Ground-clause-some
returns-in-Ground-clause-some c = rw c.in-Ground.is (c.ground_note.ensures.some)

pub returns-in-Step-clause-some : goal.returns-in-Step-clause-some
returns-in-Step-clause-some c = rw c.in-Step.is (c.step_note.ensures.some c.args.n c.args.reader.now)

pub returns-in-Step-clause-whole : goal.returns-in-Step-clause-whole
returns-in-Step-clause-whole c = c.step_note.ensures.whole _

pub returns-in-Step-clause-none : goal.returns-in-Step-clause-none
returns-in-Step-clause-none c = rw c.in-Step.is (c.step_note.ensures.none c.args.n)

pub returns-in-Shown-clause-some : goal.returns-in-Shown-clause-some
returns-in-Shown-clause-some c = rw c.in-Shown.is (c.shown_note.ensures.some c.args.n)

pub returns-in-Cover-clause-some : goal.returns-in-Cover-clause-some
returns-in-Cover-clause-some c = rw c.in-Cover.is (c.cover_note.ensures.some c.args.n)
