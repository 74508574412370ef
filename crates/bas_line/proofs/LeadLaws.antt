-- The words that plain statements begin with, and that no part, declaration or ON begins with.
use Rattle.std.proofs.Common.{◌≡◌, ℕ, inl, inr, Bool, true, false, List, Option, Some, None, slice_get, codes, refl, sym, ap, ◌∙◌, arith}
use Rattle.std.specs.Str.{str_eq_ignore_ascii_case, str_to_ascii_lowercase}
use Rattle.std.proofs.lemmas.Option.{slice_get_within}
use Rattle.std.proofs.lemmas.Slice.Eq.{bytes_eq-Decides}
use Rattle.bas_form.proofs.ElementLaws.{element_from, element_is}
use Rattle.bas_form.proofs.ReaderLaws.{same_some, bound}
use Rattle.bas_token.specs.declared.token.TokenKind.TheVariants as kind
use Rattle.bas_expr.specs.Lexemes.{Lexeme}
use Rattle.bas_expr.specs.declared.word.Connective.{Connective}
use Rattle.bas_expr.specs.Words.{connective_of_text}
use Rattle.bas_declaration.specs.Keywords.{loop_word, block_word, unit_word, declaring_word, keyword_of_text, unless_connective, keyword_of, keyword, spelling, spells}
use Rattle.bas_declaration.specs.Digits.{of_numeral}
use Rattle.bas_list.specs.Words.{line_number_of_text, line_number, ending_of, ending, Ends}
use Rattle.bas_record.specs.declared.word.Verb.{Verb as RecordVerb}
use Rattle.bas_record.specs.declared.word.Verb.TheVariants as r
use Rattle.bas_record.specs.Words as rec
use Rattle.bas_statement.specs.declared.verb.Verb.{Verb}
use Rattle.bas_statement.specs.declared.verb.Verb.TheVariants as v
use Rattle.bas_statement.specs.Verbs as verbs
use Rattle.bas_line.proofs.SimpleLaws.{BeginsPlain}

-- ---- the words

abbrev pub record_word : RecordVerb → List ℕ
record_word r.Print = codes "PRINT"
record_word r.Line = codes "LINE"
record_word r.Input = codes "INPUT"
record_word r.Open = codes "OPEN"
record_word r.Close = codes "CLOSE"
record_word r.Set = codes "SET"
record_word r.Read = codes "READ"
record_word r.Write = codes "WRITE"
record_word r.Rewrite = codes "REWRITE"
record_word r.Delete = codes "DELETE"

abbrev pub statement_word : Verb → List ℕ
statement_word v.Let = codes "LET"
statement_word v.Print = codes "PRINT"
statement_word v.Line = codes "LINE"
statement_word v.Input = codes "INPUT"
statement_word v.Read = codes "READ"
statement_word v.Restore = codes "RESTORE"
statement_word v.Goto = codes "GOTO"
statement_word v.Gosub = codes "GOSUB"
statement_word v.Go = codes "GO"
statement_word v.Return = codes "RETURN"
statement_word v.Stop = codes "STOP"
statement_word v.Exit = codes "EXIT"
statement_word v.Call = codes "CALL"
statement_word v.Retry = codes "RETRY"
statement_word v.Continue = codes "CONTINUE"
statement_word v.Cause = codes "CAUSE"
statement_word v.Chain = codes "CHAIN"

lowered : (text wanted : List ℕ) → str_eq_ignore_ascii_case text wanted ≡ true → str_to_ascii_lowercase text ≡ str_to_ascii_lowercase wanted
lowered text wanted e = (bytes_eq-Decides (str_to_ascii_lowercase text) (str_to_ascii_lowercase wanted)).0 e

spelled_r : (text c : List ℕ) (x w : RecordVerb) → record_word x ≡ c → str_eq_ignore_ascii_case text c ≡ true → x ≡ w → str_to_ascii_lowercase text ≡ str_to_ascii_lowercase (record_word w)
spelled_r text c x w ec e same = lowered text c e ∙ ap str_to_ascii_lowercase (sym ec ∙ ap record_word same)

spelled_v : (text c : List ℕ) (x w : Verb) → statement_word x ≡ c → str_eq_ignore_ascii_case text c ≡ true → x ≡ w → str_to_ascii_lowercase text ≡ str_to_ascii_lowercase (statement_word w)
spelled_v text c x w ec e same = lowered text c e ∙ ap str_to_ascii_lowercase (sym ec ∙ ap statement_word same)

record_chain : (text : List ℕ) (w : RecordVerb) (b0 b1 b2 b3 b4 b5 b6 b7 b8 b9 : Bool) → str_eq_ignore_ascii_case text (codes "PRINT") ≡ b0 → str_eq_ignore_ascii_case text (codes "LINE") ≡ b1 → str_eq_ignore_ascii_case text (codes "INPUT") ≡ b2 → str_eq_ignore_ascii_case text (codes "OPEN") ≡ b3 → str_eq_ignore_ascii_case text (codes "CLOSE") ≡ b4 → str_eq_ignore_ascii_case text (codes "SET") ≡ b5 → str_eq_ignore_ascii_case text (codes "READ") ≡ b6 → str_eq_ignore_ascii_case text (codes "WRITE") ≡ b7 → str_eq_ignore_ascii_case text (codes "REWRITE") ≡ b8 → str_eq_ignore_ascii_case text (codes "DELETE") ≡ b9 →
    rec.verb_of_text text ≡ Some w → str_to_ascii_lowercase text ≡ str_to_ascii_lowercase (record_word w)
record_chain text w true b1 b2 b3 b4 b5 b6 b7 b8 b9 e0 e1 e2 e3 e4 e5 e6 e7 e8 e9 e = spelled_r text (codes "PRINT") r.Print w refl e0 (let f = rw e0 at e in same_some f)
record_chain text w false true b2 b3 b4 b5 b6 b7 b8 b9 e0 e1 e2 e3 e4 e5 e6 e7 e8 e9 e = spelled_r text (codes "LINE") r.Line w refl e1 (let f = rw (e0, e1) at e in same_some f)
record_chain text w false false true b3 b4 b5 b6 b7 b8 b9 e0 e1 e2 e3 e4 e5 e6 e7 e8 e9 e = spelled_r text (codes "INPUT") r.Input w refl e2 (let f = rw (e0, e1, e2) at e in same_some f)
record_chain text w false false false true b4 b5 b6 b7 b8 b9 e0 e1 e2 e3 e4 e5 e6 e7 e8 e9 e = spelled_r text (codes "OPEN") r.Open w refl e3 (let f = rw (e0, e1, e2, e3) at e in same_some f)
record_chain text w false false false false true b5 b6 b7 b8 b9 e0 e1 e2 e3 e4 e5 e6 e7 e8 e9 e = spelled_r text (codes "CLOSE") r.Close w refl e4 (let f = rw (e0, e1, e2, e3, e4) at e in same_some f)
record_chain text w false false false false false true b6 b7 b8 b9 e0 e1 e2 e3 e4 e5 e6 e7 e8 e9 e = spelled_r text (codes "SET") r.Set w refl e5 (let f = rw (e0, e1, e2, e3, e4, e5) at e in same_some f)
record_chain text w false false false false false false true b7 b8 b9 e0 e1 e2 e3 e4 e5 e6 e7 e8 e9 e = spelled_r text (codes "READ") r.Read w refl e6 (let f = rw (e0, e1, e2, e3, e4, e5, e6) at e in same_some f)
record_chain text w false false false false false false false true b8 b9 e0 e1 e2 e3 e4 e5 e6 e7 e8 e9 e = spelled_r text (codes "WRITE") r.Write w refl e7 (let f = rw (e0, e1, e2, e3, e4, e5, e6, e7) at e in same_some f)
record_chain text w false false false false false false false false true b9 e0 e1 e2 e3 e4 e5 e6 e7 e8 e9 e = spelled_r text (codes "REWRITE") r.Rewrite w refl e8 (let f = rw (e0, e1, e2, e3, e4, e5, e6, e7, e8) at e in same_some f)
record_chain text w false false false false false false false false false true e0 e1 e2 e3 e4 e5 e6 e7 e8 e9 e = spelled_r text (codes "DELETE") r.Delete w refl e9 (let f = rw (e0, e1, e2, e3, e4, e5, e6, e7, e8, e9) at e in same_some f)
record_chain text w false false false false false false false false false false e0 e1 e2 e3 e4 e5 e6 e7 e8 e9 e = let f = rw (e0, e1, e2, e3, e4, e5, e6, e7, e8, e9) at e in absurd (cc)

value_chain : (text : List ℕ) (w : Verb) (b0 b1 b2 b3 b4 b5 : Bool) → str_eq_ignore_ascii_case text (codes "LET") ≡ b0 → str_eq_ignore_ascii_case text (codes "PRINT") ≡ b1 → str_eq_ignore_ascii_case text (codes "LINE") ≡ b2 → str_eq_ignore_ascii_case text (codes "INPUT") ≡ b3 → str_eq_ignore_ascii_case text (codes "READ") ≡ b4 → str_eq_ignore_ascii_case text (codes "RESTORE") ≡ b5 →
    verbs.value_verb text ≡ Some w → str_to_ascii_lowercase text ≡ str_to_ascii_lowercase (statement_word w)
value_chain text w true b1 b2 b3 b4 b5 e0 e1 e2 e3 e4 e5 e = spelled_v text (codes "LET") v.Let w refl e0 (let f = rw e0 at e in same_some f)
value_chain text w false true b2 b3 b4 b5 e0 e1 e2 e3 e4 e5 e = spelled_v text (codes "PRINT") v.Print w refl e1 (let f = rw (e0, e1) at e in same_some f)
value_chain text w false false true b3 b4 b5 e0 e1 e2 e3 e4 e5 e = spelled_v text (codes "LINE") v.Line w refl e2 (let f = rw (e0, e1, e2) at e in same_some f)
value_chain text w false false false true b4 b5 e0 e1 e2 e3 e4 e5 e = spelled_v text (codes "INPUT") v.Input w refl e3 (let f = rw (e0, e1, e2, e3) at e in same_some f)
value_chain text w false false false false true b5 e0 e1 e2 e3 e4 e5 e = spelled_v text (codes "READ") v.Read w refl e4 (let f = rw (e0, e1, e2, e3, e4) at e in same_some f)
value_chain text w false false false false false true e0 e1 e2 e3 e4 e5 e = spelled_v text (codes "RESTORE") v.Restore w refl e5 (let f = rw (e0, e1, e2, e3, e4, e5) at e in same_some f)
value_chain text w false false false false false false e0 e1 e2 e3 e4 e5 e = let f = rw (e0, e1, e2, e3, e4, e5) at e in absurd (cc)

jump_chain : (text : List ℕ) (w : Verb) (b0 b1 b2 b3 b4 b5 : Bool) → str_eq_ignore_ascii_case text (codes "GOTO") ≡ b0 → str_eq_ignore_ascii_case text (codes "GOSUB") ≡ b1 → str_eq_ignore_ascii_case text (codes "GO") ≡ b2 → str_eq_ignore_ascii_case text (codes "RETURN") ≡ b3 → str_eq_ignore_ascii_case text (codes "STOP") ≡ b4 → str_eq_ignore_ascii_case text (codes "EXIT") ≡ b5 →
    verbs.jump_verb text ≡ Some w → str_to_ascii_lowercase text ≡ str_to_ascii_lowercase (statement_word w)
jump_chain text w true b1 b2 b3 b4 b5 e0 e1 e2 e3 e4 e5 e = spelled_v text (codes "GOTO") v.Goto w refl e0 (let f = rw e0 at e in same_some f)
jump_chain text w false true b2 b3 b4 b5 e0 e1 e2 e3 e4 e5 e = spelled_v text (codes "GOSUB") v.Gosub w refl e1 (let f = rw (e0, e1) at e in same_some f)
jump_chain text w false false true b3 b4 b5 e0 e1 e2 e3 e4 e5 e = spelled_v text (codes "GO") v.Go w refl e2 (let f = rw (e0, e1, e2) at e in same_some f)
jump_chain text w false false false true b4 b5 e0 e1 e2 e3 e4 e5 e = spelled_v text (codes "RETURN") v.Return w refl e3 (let f = rw (e0, e1, e2, e3) at e in same_some f)
jump_chain text w false false false false true b5 e0 e1 e2 e3 e4 e5 e = spelled_v text (codes "STOP") v.Stop w refl e4 (let f = rw (e0, e1, e2, e3, e4) at e in same_some f)
jump_chain text w false false false false false true e0 e1 e2 e3 e4 e5 e = spelled_v text (codes "EXIT") v.Exit w refl e5 (let f = rw (e0, e1, e2, e3, e4, e5) at e in same_some f)
jump_chain text w false false false false false false e0 e1 e2 e3 e4 e5 e = let f = rw (e0, e1, e2, e3, e4, e5) at e in absurd (cc)

call_chain : (text : List ℕ) (w : Verb) (b0 b1 b2 b3 b4 : Bool) → str_eq_ignore_ascii_case text (codes "CALL") ≡ b0 → str_eq_ignore_ascii_case text (codes "RETRY") ≡ b1 → str_eq_ignore_ascii_case text (codes "CONTINUE") ≡ b2 → str_eq_ignore_ascii_case text (codes "CAUSE") ≡ b3 → str_eq_ignore_ascii_case text (codes "CHAIN") ≡ b4 →
    verbs.call_verb text ≡ Some w → str_to_ascii_lowercase text ≡ str_to_ascii_lowercase (statement_word w)
call_chain text w true b1 b2 b3 b4 e0 e1 e2 e3 e4 e = spelled_v text (codes "CALL") v.Call w refl e0 (let f = rw e0 at e in same_some f)
call_chain text w false true b2 b3 b4 e0 e1 e2 e3 e4 e = spelled_v text (codes "RETRY") v.Retry w refl e1 (let f = rw (e0, e1) at e in same_some f)
call_chain text w false false true b3 b4 e0 e1 e2 e3 e4 e = spelled_v text (codes "CONTINUE") v.Continue w refl e2 (let f = rw (e0, e1, e2) at e in same_some f)
call_chain text w false false false true b4 e0 e1 e2 e3 e4 e = spelled_v text (codes "CAUSE") v.Cause w refl e3 (let f = rw (e0, e1, e2, e3) at e in same_some f)
call_chain text w false false false false true e0 e1 e2 e3 e4 e = spelled_v text (codes "CHAIN") v.Chain w refl e4 (let f = rw (e0, e1, e2, e3, e4) at e in same_some f)
call_chain text w false false false false false e0 e1 e2 e3 e4 e = let f = rw (e0, e1, e2, e3, e4) at e in absurd (cc)

record_text : (text : List ℕ) (w : RecordVerb) → rec.verb_of_text text ≡ Some w → str_to_ascii_lowercase text ≡ str_to_ascii_lowercase (record_word w)
record_text text w e = record_chain text w _ _ _ _ _ _ _ _ _ _ refl refl refl refl refl refl refl refl refl refl e

first_by : (text : List ℕ) (w : Verb) (a b : Option Verb) → verbs.value_verb text ≡ a → verbs.jump_verb text ≡ b → verbs.verb_of_text text ≡ Some w → str_to_ascii_lowercase text ≡ str_to_ascii_lowercase (statement_word w)
first_by text w (Some x) b ea eb e = value_chain text w _ _ _ _ _ _ refl refl refl refl refl refl (ea ∙ (let f = rw ea at e in f))
first_by text w None (Some x) ea eb e = jump_chain text w _ _ _ _ _ _ refl refl refl refl refl refl (eb ∙ (let f = rw (ea, eb) at e in f))
first_by text w None None ea eb e = call_chain text w _ _ _ _ _ refl refl refl refl refl (let f = rw (ea, eb) at e in f)

statement_text : (text : List ℕ) (w : Verb) → verbs.verb_of_text text ≡ Some w → str_to_ascii_lowercase text ≡ str_to_ascii_lowercase (statement_word w)
statement_text text w e = first_by text w _ _ refl refl e

-- ---- texts that are the same but for case are read alike

same_unless : (o p : Option Connective) (s t : List ℕ) → o ≡ p → keyword_of_text s ≡ keyword_of_text t → unless_connective o s ≡ unless_connective p t
same_unless None None s t e k = k
same_unless None (Some y) s t e k = absurd (cc)
same_unless (Some x) None s t e k = absurd (cc)
same_unless (Some x) (Some y) s t e k = refl

module _ (text c : List ℕ) (e : str_to_ascii_lowercase text ≡ str_to_ascii_lowercase c) where
  same_loop : loop_word text ≡ loop_word c
  same_loop = rw e refl

  same_block : block_word text ≡ block_word c
  same_block = rw e refl

  same_unit : unit_word text ≡ unit_word c
  same_unit = rw e refl

  same_declaring : declaring_word text ≡ declaring_word c
  same_declaring = rw e refl

  same_keyword_text : keyword_of_text text ≡ keyword_of_text c
  same_keyword_text = rw (same_loop, same_block, same_unit, same_declaring) refl

  same_connective : connective_of_text text ≡ connective_of_text c
  same_connective = rw e refl

  same_keyword : keyword_of (kind.Word, text) ≡ keyword_of (kind.Word, c)
  same_keyword = same_unless (connective_of_text text) (connective_of_text c) text c same_connective same_keyword_text

  same_test : (wanted : List ℕ) → str_eq_ignore_ascii_case text wanted ≡ str_eq_ignore_ascii_case c wanted
  same_test wanted = rw e refl

  same_value : verbs.value_verb text ≡ verbs.value_verb c
  same_value = rw e refl

  same_jump : verbs.jump_verb text ≡ verbs.jump_verb c
  same_jump = rw e refl

  same_call : verbs.call_verb text ≡ verbs.call_verb c
  same_call = rw e refl

  pub same_verb : verbs.verb_of_text text ≡ verbs.verb_of_text c
  same_verb = rw (same_value, same_jump, same_call) refl

-- ---- none of these words begins anything else

abbrev IsFree : List ℕ → Type 0
IsFree c = (keyword_of (kind.Word, c) ≡ None) × (str_eq_ignore_ascii_case c (codes "ON") ≡ false) × (str_eq_ignore_ascii_case c (codes "ELSE") ≡ false)

record_free : (w : RecordVerb) → IsFree (record_word w)
record_free r.Print = (refl, refl, refl)
record_free r.Line = (refl, refl, refl)
record_free r.Input = (refl, refl, refl)
record_free r.Open = (refl, refl, refl)
record_free r.Close = (refl, refl, refl)
record_free r.Set = (refl, refl, refl)
record_free r.Read = (refl, refl, refl)
record_free r.Write = (refl, refl, refl)
record_free r.Rewrite = (refl, refl, refl)
record_free r.Delete = (refl, refl, refl)

statement_free : (w : Verb) → IsFree (statement_word w)
statement_free v.Let = (refl, refl, refl)
statement_free v.Print = (refl, refl, refl)
statement_free v.Line = (refl, refl, refl)
statement_free v.Input = (refl, refl, refl)
statement_free v.Read = (refl, refl, refl)
statement_free v.Restore = (refl, refl, refl)
statement_free v.Goto = (refl, refl, refl)
statement_free v.Gosub = (refl, refl, refl)
statement_free v.Go = (refl, refl, refl)
statement_free v.Return = (refl, refl, refl)
statement_free v.Stop = (refl, refl, refl)
statement_free v.Exit = (refl, refl, refl)
statement_free v.Call = (refl, refl, refl)
statement_free v.Retry = (refl, refl, refl)
statement_free v.Continue = (refl, refl, refl)
statement_free v.Cause = (refl, refl, refl)
statement_free v.Chain = (refl, refl, refl)

module _ (tokens : List Lexeme) (n : ℕ) where
  -- the text of the word that stands at the place
  abbrev pub Stands : List ℕ → Type 0
  Stands text = slice_get tokens n ≡ Some (let token : Lexeme = (kind.Word, text) in token)

  no_on : (text : List ℕ) → str_eq_ignore_ascii_case text (codes "ON") ≡ false → spelling (codes "ON") (kind.Word, text) ≡ None
  no_on text e = rw e refl

  no_else : (text : List ℕ) → str_eq_ignore_ascii_case text (codes "ELSE") ≡ false → ending_of (kind.Word, text) ≡ None
  no_else text e = rw e refl

  no_end : (text : List ℕ) → Stands text → ending tokens n ≡ None → Ends tokens n → ⊥
  no_end text st none (inl past) = let i = slice_get_within tokens n _ st in absurd (omega arith)
  no_end text st none (inr h) = let f = rw none at h in absurd (cc)

  begins_free : (text c : List ℕ) → Stands text → str_to_ascii_lowercase text ≡ str_to_ascii_lowercase c → IsFree c → BeginsPlain tokens n
  unfolding keyword spells line_number ending
  begins_free text c st e free = (
    element_is keyword_of tokens n (kind.Word, text) st ∙ same_keyword text c e ∙ free.0,
    element_is (spelling (codes "ON")) tokens n (kind.Word, text) st ∙ no_on text (same_test text c e (codes "ON") ∙ free.1),
    element_is (of_numeral line_number_of_text) tokens n (kind.Word, text) st,
    no_end text st (element_is ending_of tokens n (kind.Word, text) st ∙ no_else text (same_test text c e (codes "ELSE") ∙ free.2)),
  )

  word_kind : (token : Lexeme) (text : List ℕ) → rec.word_of token ≡ Some text → token ≡ (let word : Lexeme = (kind.Word, text) in word)
  word_kind (kind.Word, t) text e = ap (λ (s : List ℕ). let word : Lexeme = (kind.Word, s) in word) (same_some e)
  word_kind (kind.Numeral, t) text e = absurd (cc)
  word_kind (kind.Quoted, t) text e = absurd (cc)
  word_kind (kind.Sign, t) text e = absurd (cc)
  word_kind (kind.Remark, t) text e = absurd (cc)

  pub spelled_stands : (text : List ℕ) → rec.spelled tokens n ≡ Some text → Stands text
  unfolding rec.spelled
  spelled_stands text e = let x = element_from rec.word_of tokens n text e in x.1 ∙ ap (λ (t : Lexeme). Some t) (word_kind x.0 text x.2)

  pub record_stands : (w : RecordVerb) → rec.verb tokens n ≡ Some w → (text : List ℕ) × Stands text × (str_to_ascii_lowercase text ≡ str_to_ascii_lowercase (record_word w))
  unfolding rec.verb
  record_stands w e = let b = bound (rec.spelled tokens n) rec.verb_of_text w e in (b.0, spelled_stands b.0 b.1, record_text b.0 w b.2)

  verb_kind : (token : Lexeme) (w : Verb) → verbs.verb_of token ≡ Some w → (text : List ℕ) × (token ≡ (let word : Lexeme = (kind.Word, text) in word)) × (verbs.verb_of_text text ≡ Some w)
  verb_kind (kind.Word, t) w e = (t, refl, e)
  verb_kind (kind.Numeral, t) w e = absurd (cc)
  verb_kind (kind.Quoted, t) w e = absurd (cc)
  verb_kind (kind.Sign, t) w e = absurd (cc)
  verb_kind (kind.Remark, t) w e = absurd (cc)

  pub statement_stands : (w : Verb) → verbs.verb tokens n ≡ Some w → (text : List ℕ) × Stands text × (verbs.verb_of_text text ≡ Some w)
  unfolding verbs.verb
  statement_stands w e =
      let x = element_from verbs.verb_of tokens n w e in
      let y = verb_kind x.0 w x.2 in
      (y.0, x.1 ∙ ap (λ (t : Lexeme). Some t) y.1, y.2)

  pub record_begins : (w : RecordVerb) → rec.verb tokens n ≡ Some w → BeginsPlain tokens n
  record_begins w e = let x = record_stands w e in begins_free x.0 (record_word w) x.1 x.2 (record_free w)

  pub statement_begins : (w : Verb) → verbs.verb tokens n ≡ Some w → BeginsPlain tokens n
  statement_begins w e = let x = statement_stands w e in begins_free x.0 (statement_word w) x.1 (statement_text x.0 w x.2) (statement_free w)

  -- the words of both where a statement of each begins
  pub both_verbs : (w : RecordVerb) (x : Verb) → rec.verb tokens n ≡ Some w → verbs.verb tokens n ≡ Some x → verbs.verb_of_text (record_word w) ≡ Some x
  both_verbs w x ew ex =
      let a = record_stands w ew in
      let b = statement_stands x ex in
      let same : a.0 ≡ b.0 = ap (λ (t : Lexeme). t.1) (same_some (sym a.1 ∙ b.1)) in
      sym (same_verb a.0 (record_word w) a.2) ∙ ap verbs.verb_of_text same ∙ b.2
