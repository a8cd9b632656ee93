-- The grammar of statements (the CNF part of the TPTP language): what may be written, and the tokens that it is written with,
-- in front of the tokens that follow it.
use Rattle.std.specs.Prelude.{◌≡◌, List, [], ◌∷◌, Bool, true, ◌&&◌, IsTrue, codes}
use Rattle.std.specs.List.{list_all}
use Rattle.tptp_read.specs.declared.kind.TokenKind.TheVariants.{Punctuation}
use Rattle.tptp_read.specs.Stream.{Tok}
use Rattle.tptp_read.specs.Lexemes.{mark, lower, is_head, is_plain, is_lower_kind, is_quoted_kind, is_name_kind}
use Rattle.inst_logic.specs.Codes as byte

-- a term: a token, or a word with one or more terms
mutual
  pub data Written : Type 0 where
    single : Tok → Written
    applied : Tok → Written → Writtens → Written

  pub data Writtens : Type 0 where
    none : Writtens
    more : Written → Writtens → Writtens

pub data Negated : Type 0 where
  no_atom : Written → Negated
  no_equation : Written → Written → Negated
  in_parens : Negated → Negated

pub data Simple : Type 0 where
  atom : Written → Simple
  equation : Written → Written → Simple
  unequal : Written → Written → Simple
  negated : Negated → Simple

mutual
  pub data Item : Type 0 where
    simple : Simple → Item
    nested : Item → Items → Item

  pub data Items : Type 0 where
    last : Items
    or : Item → Items → Items

-- a general term: a token, a word with general terms, a list, or a pair with a colon whose left side is no list
mutual
  pub data General : Type 0 where
    thing : Thing → General
    pair : Thing → General → General
    empty : General
    filled : General → Generals → General

  pub data Thing : Type 0 where
    token : Tok → Thing
    call : Tok → General → Generals → Thing

  pub data Generals : Type 0 where
    ended : Generals
    also : General → Generals → Generals

pub data Note : Type 0 where
  unnoted : Note
  source : General → Note
  with_empty : General → Note
  with_list : General → General → Generals → Note

pub data Form : Type 0 where
  cnf : Tok → Tok → Item → Items → Note → Form
  whole : Tok → Form
  selected : Tok → Tok → List Tok → Form

-- ---- the tokens, in front of others

abbrev mutual
  pub term : Written → List Tok → List Tok
  term (single t) rest = t ∷ rest
  term (applied f t ts) rest = f ∷ mark byte.opening_parenthesis ∷ term t (terms ts (mark byte.closing_parenthesis ∷ rest))

  pub terms : Writtens → List Tok → List Tok
  terms none rest = rest
  terms (more t ts) rest = mark byte.comma ∷ term t (terms ts rest)

abbrev pub negated_text : Negated → List Tok → List Tok
negated_text (no_atom t) rest = term t rest
negated_text (no_equation t u) rest = term t (mark byte.equals_sign ∷ term u rest)
negated_text (in_parens n) rest = mark byte.opening_parenthesis ∷ negated_text n (mark byte.closing_parenthesis ∷ rest)

abbrev pub unequal_mark : Tok
unequal_mark = record { kind = Punctuation; text = byte.exclamation_mark ∷ byte.equals_sign ∷ [] }

abbrev pub simple_text : Simple → List Tok → List Tok
simple_text (atom t) rest = term t rest
simple_text (equation t u) rest = term t (mark byte.equals_sign ∷ term u rest)
simple_text (unequal t u) rest = term t (unequal_mark ∷ term u rest)
simple_text (negated n) rest = mark byte.tilde ∷ negated_text n rest

abbrev mutual
  pub item : Item → List Tok → List Tok
  item (simple s) rest = simple_text s rest
  item (nested i is) rest = mark byte.opening_parenthesis ∷ item i (items is (mark byte.closing_parenthesis ∷ rest))

  pub items : Items → List Tok → List Tok
  items last rest = rest
  items (or i is) rest = mark byte.bar ∷ item i (items is rest)

abbrev mutual
  pub general : General → List Tok → List Tok
  general (thing t) rest = thing_text t rest
  general (pair t g) rest = thing_text t (mark byte.colon ∷ general g rest)
  general empty rest = mark byte.opening_bracket ∷ mark byte.closing_bracket ∷ rest
  general (filled g gs) rest = mark byte.opening_bracket ∷ general g (generals gs (mark byte.closing_bracket ∷ rest))

  pub thing_text : Thing → List Tok → List Tok
  thing_text (token t) rest = t ∷ rest
  thing_text (call f g gs) rest = f ∷ mark byte.opening_parenthesis ∷ general g (generals gs (mark byte.closing_parenthesis ∷ rest))

  pub generals : Generals → List Tok → List Tok
  generals ended rest = rest
  generals (also g gs) rest = mark byte.comma ∷ general g (generals gs rest)

abbrev pub note : Note → List Tok → List Tok
note unnoted rest = rest
note (source g) rest = mark byte.comma ∷ general g rest
note (with_empty g) rest = mark byte.comma ∷ general g (mark byte.comma ∷ mark byte.opening_bracket ∷ mark byte.closing_bracket ∷ rest)
note (with_list g h gs) rest = mark byte.comma ∷ general g (mark byte.comma ∷ mark byte.opening_bracket ∷ general h (generals gs (mark byte.closing_bracket ∷ rest)))

abbrev pub names : List Tok → List Tok → List Tok
names [] rest = rest
names (t ∷ ts) rest = mark byte.comma ∷ t ∷ names ts rest

abbrev pub form : Form → List Tok
form (cnf name role i is n) = lower (codes "cnf") ∷ mark byte.opening_parenthesis ∷ name ∷ mark byte.comma ∷ role ∷ mark byte.comma ∷ item i (items is (note n (mark byte.closing_parenthesis ∷ mark byte.full_stop ∷ [])))
form (whole file) = lower (codes "include") ∷ mark byte.opening_parenthesis ∷ file ∷ mark byte.closing_parenthesis ∷ mark byte.full_stop ∷ []
form (selected file n ns) = lower (codes "include") ∷ mark byte.opening_parenthesis ∷ file ∷ mark byte.comma ∷ mark byte.opening_bracket ∷ n ∷ names ns (mark byte.closing_bracket ∷ mark byte.closing_parenthesis ∷ mark byte.full_stop ∷ [])

-- ---- which kinds of token may stand where

abbrev mutual
  pub term_fits : Written → Bool
  term_fits (single t) = is_plain t.kind
  term_fits (applied f t ts) = is_head f.kind && (term_fits t && terms_fit ts)

  pub terms_fit : Writtens → Bool
  terms_fit none = true
  terms_fit (more t ts) = term_fits t && terms_fit ts

-- a word, alone or with terms
abbrev pub is_atom : Written → Bool
is_atom (single t) = is_head t.kind
is_atom (applied f t ts) = true

abbrev pub negated_fits : Negated → Bool
negated_fits (no_atom t) = is_atom t && term_fits t
negated_fits (no_equation t u) = term_fits t && term_fits u
negated_fits (in_parens n) = negated_fits n

abbrev pub simple_fits : Simple → Bool
simple_fits (atom t) = is_atom t && term_fits t
simple_fits (equation t u) = term_fits t && term_fits u
simple_fits (unequal t u) = term_fits t && term_fits u
simple_fits (negated n) = negated_fits n

abbrev mutual
  pub item_fits : Item → Bool
  item_fits (simple s) = simple_fits s
  item_fits (nested i is) = item_fits i && items_fit is

  pub items_fit : Items → Bool
  items_fit last = true
  items_fit (or i is) = item_fits i && items_fit is

abbrev mutual
  pub general_fits : General → Bool
  general_fits (thing t) = thing_fits t
  general_fits (pair t g) = thing_fits t && general_fits g
  general_fits empty = true
  general_fits (filled g gs) = general_fits g && generals_fit gs

  pub thing_fits : Thing → Bool
  thing_fits (token t) = is_plain t.kind
  thing_fits (call f g gs) = is_head f.kind && (general_fits g && generals_fit gs)

  pub generals_fit : Generals → Bool
  generals_fit ended = true
  generals_fit (also g gs) = general_fits g && generals_fit gs

abbrev pub note_fits : Note → Bool
note_fits unnoted = true
note_fits (source g) = general_fits g
note_fits (with_empty g) = general_fits g
note_fits (with_list g h gs) = general_fits g && (general_fits h && generals_fit gs)

abbrev pub is_name : Tok → Bool
is_name t = is_name_kind t.kind

abbrev pub form_fits : Form → Bool
form_fits (cnf name role i is n) = is_name name && (is_lower_kind role.kind && (item_fits i && (items_fit is && note_fits n)))
form_fits (whole file) = is_quoted_kind file.kind
form_fits (selected file n ns) = is_quoted_kind file.kind && (is_name n && list_all is_name ns)

-- the tokens are a statement of this form
pub record IsForm (ts : List Tok) (f : Form) : Type 0 where
  pub spelled : form f ≡ ts
  pub fits : IsTrue (form_fits f)
