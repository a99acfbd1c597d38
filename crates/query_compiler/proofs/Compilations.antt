-- What a text is compiled to is one thing, and what was read of a query determines the whole of it.
use Rattle.std.proofs.Common.{◌≡◌, ◌<◌, ◌≤◌, ◌⊎◌, inl, inr, ℕ, zero, suc, List, ◌++◌, length}
use Rattle.std.proofs.Common.{Option, Some, None, IfSome, sym, ap, subst, ◌∙◌, append-nil}
use Rattle.std.proofs.Common.{length-append, arith}
use Rattle.std.specs.Io.KnownBytes.{Consumes, IsAtEnd}
use Rattle.language_base.specs.Limits.{max_text}
use Rattle.language_base.specs.declared.refusal.Refusal.{Refusal}
use Rattle.language_base.specs.declared.rule.Rule.TheVariants as rule
use Rattle.query_forms.specs.Terms.{Terms}
use Rattle.query_model.specs.Monitors.{Monitor}
use Rattle.query_parser.specs.Reading.{IsFileOf, long, refusal}
use Rattle.query_parser.proofs.OneReading.{one_file, file_or_refused, one_refusal}
use Rattle.query_syntax.specs.Files.{program_terms}
use Rattle.query_syntax.specs.Programs.{Program}
use Rattle.query_syntax.proofs.OneProgram.{one_program}
use Rattle.type_checker.specs.Judged.{IsJudged, Verdict, accepted, refused}
use Rattle.type_checker.specs.Blames.{refusal_of}
use Rattle.type_checker.specs.declared.blame.Blame.{Blame}
use Rattle.type_checker.proofs.Judging.{blame_refused}
use Rattle.type_checker.proofs.Verdicts.{one_verdict}
use Rattle.query_compiler.specs.Compiled.{Compiles, judged, unread}
use Rattle.query_compiler.specs.Stops.{IsBlamedIn, IsRefusedBy, IsStopOf}
use Rattle.query_compiler.specs.declared.query.QueryStop.{QueryStop}
use Rattle.query_compiler.specs.declared.query.QueryStop.TheVariants.{Failed, Refused, Ambiguous}
use Rattle.query_compiler.specs.declared.query.QueryStop.TheVariants.{Memory}

-- a text is compiled to one verdict
pub one_query : (text : List ℕ) (one other : Verdict) → Compiles text one
    → Compiles text other → other ≡ one
one_query text _ _ (judged p v file is) (judged p' v' file' is') =
    let same : p' ≡ p =
    one_program p' p (one_file text (program_terms p) (program_terms p') file file') in
    one_verdict p v v' is (subst (λ (q : Program). IsJudged q v') same is')
one_query text _ _ (judged p v file is) (unread why refuses) =
    absurd (file_or_refused text (program_terms p) why file refuses)
one_query text _ _ (unread why refuses) (judged p v file is) =
    absurd (file_or_refused text (program_terms p) why file refuses)
one_query text _ _ (unread why refuses) (unread why' refuses') =
    ap refused (one_refusal text why why' refuses refuses')

-- a text whose query is blamed is refused
pub blame_refuses : (text : List ℕ) (blame : Blame) → IsBlamedIn (Some text) blame
    → Compiles text (refused (refusal_of blame))
blame_refuses text blame (program, is, file) =
    judged program (refused (refusal_of blame)) file (blame_refused program blame is)

-- one number is at most the other, or above it
one_more : (m n : ℕ) → (m ≤ n) ⊎ (n < m) → (suc m ≤ suc n) ⊎ (suc n < suc m)
one_more m n (inl h) = inl (omega arith)
one_more m n (inr h) = inr (omega arith)

le_or_lt : (m n : ℕ) → (m ≤ n) ⊎ (n < m)
le_or_lt zero n = inl (omega arith)
le_or_lt (suc m) zero = inr (omega arith)
le_or_lt (suc m) (suc n) = one_more m n (le_or_lt m n)

-- a file is not too long
file_short : (text : List ℕ) (terms : Terms) → IsFileOf text terms → length text ≤ max_text
file_short text terms file = file.has.has.has.has.short

-- nor is a text that is compiled to a query
pub compiled_short : (text : List ℕ) (verdict : Verdict) (monitor : Monitor)
    → verdict ≡ accepted monitor → Compiles text verdict → length text ≤ max_text
compiled_short text _ monitor is (judged program verdict file was) =
    file_short text (program_terms program) file
compiled_short text _ monitor is (unread why broken) = absurd (cc)

-- a text that is too long is compiled to its refusal, and so is each that is too long
too_long : (text bytes : List ℕ) (verdict : Verdict) → max_text < length text
    → max_text < length bytes → Compiles bytes verdict → Compiles text verdict
too_long text bytes _ beyond more (judged program verdict file is) =
    absurd (let short = file_short bytes (program_terms program) file in omega arith)
too_long text bytes _ beyond more (unread why refuses) =
    subst (λ (r : Refusal). Compiles text (refused r))
    (sym (one_refusal bytes (refusal rule.Long 65536 65537) why (long more) refuses))
    (unread (refusal rule.Long 65536 65537) (long beyond))

-- the whole text is compiled to what the bytes read are, if these are all of it or too many
pub reported_query : (left left' : Option (List ℕ)) (bytes : List ℕ) (verdict : Verdict)
    → Consumes left left' bytes → (length bytes ≤ max_text → IsAtEnd left') → Compiles bytes verdict
    → IfSome left (λ text. Compiles text verdict)
reported_query None left' bytes verdict read whole compiles = tt
reported_query (Some text) None bytes verdict read whole compiles = absurd read
reported_query (Some text) (Some rest) bytes verdict read whole compiles =
    at (le_or_lt (length bytes) 65536)
  where
    at : (length bytes ≤ max_text) ⊎ (max_text < length bytes) → Compiles text verdict
    at (inl h) =
        let same : bytes ≡ text =
        sym (read ∙ ap (λ (l : List ℕ). bytes ++ l) (whole h) ∙ append-nil bytes) in
        subst (λ (t : List ℕ). Compiles t verdict) same compiles
    at (inr h) =
        let longer : max_text < length text =
        omega (arith, ap length read, length-append bytes rest) in
        too_long text bytes verdict longer h compiles

-- so by a refusal
reported_refusal : (left left' : Option (List ℕ)) (bytes : List ℕ) (why : Refusal)
    → Consumes left left' bytes → (length bytes ≤ max_text → IsAtEnd left') → IsRefusedBy why bytes
    → IfSome left (IsRefusedBy why)
reported_refusal None left' bytes why read whole is = tt
reported_refusal (Some text) left' bytes why read whole (compiles, no_word) =
    (reported_query (Some text) left' bytes (refused why) read whole compiles, no_word)

-- and it writes what the bytes read do, where these are a file
reported_file : (left left' : Option (List ℕ)) (bytes : List ℕ) (terms : Terms)
    → Consumes left left' bytes → (length bytes ≤ max_text → IsAtEnd left') → IsFileOf bytes terms
    → IfSome left (λ text. IsFileOf text terms)
reported_file None left' bytes terms read whole file = tt
reported_file (Some text) None bytes terms read whole file = absurd read
reported_file (Some text) (Some rest) bytes terms read whole file =
    let same : bytes ≡ text =
    sym (read ∙ ap (λ (l : List ℕ). bytes ++ l) (whole (file_short bytes terms file))
    ∙ append-nil bytes)
    in
    subst (λ (t : List ℕ). IsFileOf t terms) same file

-- so it is blamed as they are
reported_blame : (left left' : Option (List ℕ)) (bytes : List ℕ) (blame : Blame)
    → Consumes left left' bytes → (length bytes ≤ max_text → IsAtEnd left')
    → IsBlamedIn (Some bytes) blame → IsBlamedIn left blame
reported_blame left left' bytes blame read whole (program, is, file) =
    (program, is, reported_file left left' bytes (program_terms program) read whole file)

-- why the bytes read give no query is why the whole text gives none
pub reported_stop : (left left' : Option (List ℕ)) (bytes : List ℕ) (why : QueryStop)
    → Consumes left left' bytes → (length bytes ≤ max_text → IsAtEnd left')
    → IsStopOf (Some bytes) why → IsStopOf left why
reported_stop left left' bytes (Refused refusal) read whole is =
    reported_refusal left left' bytes refusal read whole is
reported_stop left left' bytes (Ambiguous blame) read whole is =
    reported_blame left left' bytes blame.value read whole is
reported_stop left left' bytes Failed read whole is = tt
reported_stop left left' bytes Memory read whole is = tt
