-- Answers: the number and the place of each refusal of the code (document 01, Refusals), and of a call's result. Assumes nothing.
use Rattle.answers.specs.Verdict.{Verdict, accepted, refused}
use Rattle.std.specs.Prelude.{Result, Ok, Err}
use Rattle.answers.specs.declared.Refusal.{Refusal}
use Rattle.answers.specs.declared.Refusal.TheVariants.{FeedLength, Ceiling, Ascent, Sides, DrawingLength, Missing, Unpicked, ListLength, UnknownKind, Full, Large, TooMany, Short, Breach, TooWide, Operand, Unused}

abbrev pub refusal_of : Refusal → Verdict
-- "The camera feed"
refusal_of FeedLength = refused 1 0
refusal_of (Ceiling p) = refused 2 p
refusal_of (Ascent p) = refused 3 p
refusal_of (Sides p) = refused 4 p
-- "Whoever draws"
refusal_of DrawingLength = refused 5 0
refusal_of (Missing p) = refused 6 p
refusal_of Unpicked = refused 7 0
-- "Whoever writes instructions"
refusal_of ListLength = refused 8 0
refusal_of (UnknownKind p) = refused 9 p
-- "The host, by what it lends, or the drawing by its size"
refusal_of (Full i) = refused 10 i
refusal_of (Large i) = refused 11 i
refusal_of TooMany = refused 12 0
refusal_of (Short n) = refused 13 n
-- "The sheet's author"
refusal_of (Breach line) = refused 14 line
-- "The call refuses with 15, place 0, when more than five nodes are picked" (document 02, E2)
refusal_of TooWide = refused 15 0
-- "16 when an operand is not an earlier register or names an absent class or label, and with 17 when an unused word is not 0" (document 02, E3)
refusal_of (Operand p) = refused 16 p
refusal_of (Unused p) = refused 17 p

-- "0 and 0 when accepted"
unfoldable pub verdict_of : {T : Type 0} → Result T Refusal → Verdict
verdict_of (Ok x) = accepted
verdict_of (Err r) = refusal_of r
