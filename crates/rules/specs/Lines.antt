-- Examples of our own, beside the sheet: one list a subject, which together hold down what every definition says, in plain numbers and texts.
-- Each symbol stands here with both signs, each number that comes back, each rule of shape, each limit on both sides, each two refusals that
-- follow one another in their order, and each byte of a plan. proofs/Examples.antt proves them; the number 13 and the input's limit are proved
-- there of every input. Assumes nothing.
use Prim.Native.String.{String}
use Rattle.std.specs.Prelude.{List, [], ◌∷◌, ◌++◌, ℤ, pos, replicate}
use Rattle.rules.specs.Words.{text}
use Rattle.rules.specs.Sheet.{Line, accepts, compiles, compiles_into, cut_refuses, cuts, cuts_into, differs, edits, edits_into, forbids, joined, keeps, lists, minus, no_plan, packs, plan_edits, plan_reads, reads, reads_run, refusal, refuses, rejects, repeated, series, spoils, stores, success}

-- RULES 3.12: each sign and the dollar sign standing still, before the digits and behind them, with both signs.
abbrev pub statics : List Line
statics =
    edits "S9" (pos 5) 0 "+5" ∷
    edits "S9" (minus 5) 0 "-5" ∷
    edits "9S" (pos 5) 0 "5+" ∷
    edits "9S" (minus 5) 0 "5-" ∷
    edits "+9" (pos 5) 0 "+5" ∷
    edits "+9" (minus 5) 0 " 5" ∷
    edits "9+" (pos 5) 0 "5+" ∷
    edits "9+" (minus 5) 0 "5 " ∷
    edits "-9" (pos 5) 0 " 5" ∷
    edits "-9" (minus 5) 0 "-5" ∷
    edits "9-" (pos 5) 0 "5 " ∷
    edits "9-" (minus 5) 0 "5-" ∷
    edits "9CR" (pos 5) 0 "5  " ∷
    edits "9CR" (minus 5) 0 "5CR" ∷
    edits "9DB" (pos 5) 0 "5  " ∷
    edits "9DB" (minus 5) 0 "5DB" ∷
    edits "S$9" (pos 5) 0 "+$5" ∷
    edits "S$9" (minus 5) 0 "-$5" ∷
    edits "9$S" (pos 5) 0 "5$+" ∷
    edits "9$S" (minus 5) 0 "5$-" ∷ []

-- RULES 3.13: the same drifting, with both signs; the character stands last in the stretch, at an insertion's position too unless that is B's.
abbrev pub drifting : List Line
drifting =
    edits "SSS9" (pos 5) 0 "  +5" ∷
    edits "SSS9" (minus 5) 0 "  -5" ∷
    edits "SSS9" (pos 12) 0 " +12" ∷
    edits "SSS9" (minus 123) 0 "-123" ∷
    edits "+++9" (pos 7) 0 "  +7" ∷
    edits "+++9" (minus 70) 0 "  70" ∷
    edits "---9" (pos 7) 0 "   7" ∷
    edits "---9" (minus 700) 0 "-700" ∷
    edits "$$$9" (pos 7) 0 "  $7" ∷
    edits "$$9CR" (pos 7) 0 " $7  " ∷
    edits "$$9CR" (minus 7) 0 " $7CR" ∷
    edits "S$$9" (minus 7) 0 "- $7" ∷
    edits "$$,9" (pos 5) 0 "  $5" ∷
    edits "--/9" (minus 5) 0 "  -5" ∷
    edits "$$.9" (pos 5) 0 "  $5" ∷
    edits "--B9" (minus 5) 0 " - 5" ∷
    edits "$V$" (pos 5) 1 "$5" ∷
    edits "$,V.$" (pos 5) 1 " $.5" ∷ []

-- RULES 3.11: each insertion with both signs, and inside the stretch and outside it: before it, behind it and between digits that print.
abbrev pub insertions : List Line
insertions =
    edits "S9,9.9/9B9" (pos 12345) 0 "+1,2.3/4 5" ∷
    edits "S9,9.9/9B9" (minus 12345) 0 "-1,2.3/4 5" ∷
    edits "Z,Z.Z/ZB9" (pos 12345) 0 "1,2.3/4 5" ∷
    edits "Z,Z.Z/ZB9" (pos 345) 0 "    3/4 5" ∷
    edits "Z,Z.Z/ZB9" (pos 5) 0 "        5" ∷
    edits "*,*.*/*B9" (pos 12345) 0 "1,2.3/4 5" ∷
    edits "*,*.*/*B9" (pos 345) 0 "****3/4 5" ∷
    edits "*,*.*/*B9" (pos 5) 0 "******* 5" ∷
    edits "-,-.-/-B9" (minus 1345) 0 " -1.3/4 5" ∷
    edits ",./BZZ,./B" (pos 5) 0 ",./  5,./ " ∷
    edits "V,.ZZ" (pos 1) 2 ",.01" ∷
    edits "ZV.9" (pos 0) 0 " .0" ∷ []

-- RULES 3.6, 3.7, 3.11 and 3.13: the gaps that B leaves. It is a blank before the stretch, in it and behind it, before V and behind V, and where everything is
-- suppressed; what drifts passes over it, over several too, and to no place further left. The B of a mark is no insertion.
abbrev pub gaps : List Line
gaps =
    edits "**B**" (pos 12) 0 "** 12" ∷
    edits "**B**" (pos 123) 0 "*1 23" ∷
    edits "B**B" (pos 5) 0 " *5 " ∷
    edits "(3)*(2)B9" (pos 5) 0 "***  5" ∷
    edits "**,B*" (pos 5) 0 "*** 5" ∷
    edits "**B,*" (pos 5) 0 "** *5" ∷
    edits "*B*V.*B*" (pos 1) 2 "* *.0 1" ∷
    edits "*BV.9" (pos 5) 1 "* .5" ∷
    edits "*BBT" (minus 5) 0 "*  N" ∷
    edits "ZBZ" (pos 5) 0 "  5" ∷
    edits "**B**" (pos 0) 0 "** **" ∷
    edits "B**B" (pos 0) 0 " ** " ∷
    edits "*BB*" (pos 0) 0 "*  *" ∷
    edits "*B*V.*B*" (pos 0) 0 "* *** *" ∷
    edits "$BS*B*" (pos 0) 0 "* ** *" ∷
    edits "**BDB" (pos 0) 0 "** **" ∷
    edits "**BDB" (minus 5) 0 "*5 DB" ∷
    edits "**BDB" (pos 5) 0 "*5   " ∷
    edits "$$B$$" (pos 0) 0 "     " ∷
    edits "$$B$$9" (pos 0) 0 "    $0" ∷
    edits "$$B$$9" (pos 12) 0 "   $12" ∷
    edits "$$B$$9" (pos 1234) 0 "$1 234" ∷
    edits "$$BB9" (pos 5) 0 " $  5" ∷
    edits "$B$9" (pos 15) 0 "$ 15" ∷
    edits "$BB$" (pos 5) 0 "$  5" ∷
    edits "$(5)B$" (pos 5) 0 "$     5" ∷
    edits "$$BT" (minus 5) 0 " $ N" ∷
    edits "$$B9CR" (minus 5) 0 " $ 5CR" ∷
    edits "$B,$" (pos 5) 0 "  $5" ∷
    edits "$,B$" (pos 5) 0 " $ 5" ∷
    edits "$BV.$" (pos 5) 1 "$ .5" ∷
    edits "$V.B$" (pos 5) 1 "$. 5" ∷
    edits "B$$9B" (pos 5) 0 "  $5 " ∷
    edits "SSB9" (pos 5) 0 " + 5" ∷
    edits "SSB9" (minus 5) 0 " - 5" ∷
    edits "++B9" (pos 5) 0 " + 5" ∷
    edits "++B9" (minus 5) 0 "   5" ∷
    edits "--B9" (pos 5) 0 "   5" ∷
    reads "**B**" "** *5" (pos 5) ∷
    reads "**B**" "** **" (pos 0) ∷
    reads "**B**" "*1 23" (pos 123) ∷
    reads "**BDB" "** **" (pos 0) ∷
    reads "$$B$$9" " $ 123" (pos 123) ∷
    reads "$$BB9" " $  5" (pos 5) ∷
    reads "$BV.$" "$ .5" (pos 5) ∷
    reads "--B9" " - 5" (minus 5) ∷
    reads "++B9" "   5" (minus 5) ∷
    rejects "**B**" "****5" 10 ∷
    rejects "**B**" "*****" 10 ∷
    rejects "**B**" "     " 10 ∷
    rejects "**B**" "** *0" 10 ∷
    rejects "**,**" "** *5" 10 ∷
    rejects "**BDB" "**   " 10 ∷
    rejects "$$B$$9" "  $123" 10 ∷
    rejects "$$B$$9" "$  123" 10 ∷
    rejects "$$B$$9" " $$123" 10 ∷
    rejects "$$B$$9" "   123" 10 ∷
    rejects "$$BB9" "  $ 5" 10 ∷
    rejects "$$BB9" " $ $5" 10 ∷
    rejects "$$BB9" "   $5" 10 ∷
    rejects "$B$$9" " $ $5" 10 ∷
    rejects "--B9" "  -5" 10 ∷
    plan_edits "**B**;$$B$$9;" (pos 5 ∷ pos 123 ∷ []) "###########" (success 11 (pos 0)) "** *5 $ 123" ∷
    plan_reads "**B**;$$B$$9;" "** *5 $ 123" (pos 7 ∷ pos 7 ∷ []) (success 2 (pos 0)) (pos 5 ∷ pos 123 ∷ []) ∷
    compiles "**B**;" (1 ∷ 5 ∷ 5 ∷ 2 ∷ 0 ∷ 5 ∷ 1 ∷ 1 ∷ 10 ∷ 1 ∷ 1 ∷ []) ∷
    lists "**B**;\n** *5\n****5\n** **\n" "0,0,0,1,5\n1,0,0,5\n2,10,1\n3,0,0,0\n" ∷ []

-- RULES 3.5 to 3.10: 9, Z, * and V: leading zeros, where printing starts, and a sign beside them.
abbrev pub digits : List Line
digits =
    edits "999" (pos 7) 0 "007" ∷
    edits "ZZZ" (pos 7) 0 "  7" ∷
    edits "***" (pos 7) 0 "**7" ∷
    edits "ZZ9" (pos 700) 0 "700" ∷
    edits "**9" (pos 70) 0 "*70" ∷
    edits "S999" (minus 7) 0 "-007" ∷
    edits "-ZZ9" (minus 7) 0 "-  7" ∷
    edits "-**9" (minus 7) 0 "-**7" ∷
    edits "-**9" (pos 7) 0 " **7" ∷
    edits "9V9" (pos 15) 1 "15" ∷
    edits "ZV9" (pos 5) 1 " 5" ∷
    edits "*V.99" (pos 5) 2 "*.05" ∷
    edits "V99" (pos 5) 2 "05" ∷
    edits "VZZ" (pos 5) 2 "05" ∷
    edits "ZZ.VZZ" (pos 5) 2 "   05" ∷
    edits "ZZV.ZZ" (pos 5) 2 "  .05" ∷
    edits "V$9" (pos 5) 1 "$5" ∷ []

-- Rows of ten numbers.
abbrev pub rising : List ℤ
rising = pos 0 ∷ pos 1 ∷ pos 2 ∷ pos 3 ∷ pos 4 ∷ pos 5 ∷ pos 6 ∷ pos 7 ∷ pos 8 ∷ pos 9 ∷ []

abbrev pub falling : List ℤ
falling = minus 10 ∷ minus 11 ∷ minus 12 ∷ minus 13 ∷ minus 14 ∷ minus 15 ∷ minus 16 ∷ minus 17 ∷ minus 18 ∷ minus 19 ∷ []

abbrev pub sevens : List ℤ
sevens = replicate 10 (pos 7)

-- RULES 3.10: each character of the three lists, by each of the symbols that are punched, with both signs, edited and read.
abbrev pub punches : List Line
punches =
    plan_edits (repeated 10 "T;") rising "##########" (success 10 (pos 0)) "{ABCDEFGHI" ∷
    plan_edits (repeated 10 "9T;") falling "####################" (success 20 (pos 0)) "1}1J1K1L1M1N1O1P1Q1R" ∷
    plan_edits (repeated 10 "I;") rising "##########" (success 10 (pos 0)) "{ABCDEFGHI" ∷
    plan_edits (repeated 10 "9I;") falling "####################" (success 20 (pos 0)) "10111213141516171819" ∷
    plan_edits (repeated 10 "R;") rising "##########" (success 10 (pos 0)) "0123456789" ∷
    plan_edits (repeated 10 "9R;") falling "####################" (success 20 (pos 0)) "1}1J1K1L1M1N1O1P1Q1R" ∷
    plan_reads (repeated 10 "T;") "{ABCDEFGHI" sevens (success 10 (pos 0)) rising ∷
    plan_reads (repeated 10 "9T;") "1}1J1K1L1M1N1O1P1Q1R" sevens (success 10 (pos 0)) falling ∷
    plan_reads (repeated 10 "I;") "{ABCDEFGHI" sevens (success 10 (pos 0)) rising ∷
    plan_reads (repeated 10 "9I;") "10111213141516171819" sevens (success 10 (pos 0)) falling ∷
    plan_reads (repeated 10 "R;") "0123456789" sevens (success 10 (pos 0)) rising ∷
    plan_reads (repeated 10 "9R;") "1}1J1K1L1M1N1O1P1Q1R" sevens (success 10 (pos 0)) falling ∷ []

-- RULES 2.3, 3.3, 3.7, 3.8 and 4.4: T, I and R wherever a 9 may stand, before V and behind it, behind what is suppressible and among insertions; they
-- print, and a zero is plus.
abbrev pub punched : List Line
punched =
    edits "99T" (pos 123) 0 "12C" ∷
    edits "99T" (minus 123) 0 "12L" ∷
    edits "99I" (minus 123) 0 "123" ∷
    edits "99R" (minus 123) 0 "12L" ∷
    edits "T99" (minus 123) 0 "J23" ∷
    edits "9I9" (pos 123) 0 "1B3" ∷
    edits "RV9" (minus 12) 1 "J2" ∷
    edits "9V9T" (minus 123) 2 "12L" ∷
    edits "VT" (minus 5) 1 "N" ∷
    edits "9,9T/" (minus 123) 0 "1,2L/" ∷
    edits "ZZT" (pos 0) 0 "  {" ∷
    edits "ZZI" (minus 40) 0 " 40" ∷
    edits "ZZR" (minus 40) 0 " 4}" ∷
    edits "ZT9" (minus 5) 0 " }5" ∷
    edits "ZI9" (pos 5) 0 " {5" ∷
    edits "ZR9" (minus 5) 0 " }5" ∷
    edits "ZZI" (pos 0) 0 "  {" ∷
    edits "ZZR" (pos 0) 0 "  0" ∷
    edits "9VI" (minus 12) 1 "12" ∷
    edits "V9R" (minus 12) 2 "1K" ∷
    edits "9T" (minus 1) 0 "0J" ∷
    edits "9I" (minus 1) 0 "01" ∷
    edits "9R" (minus 1) 0 "0J" ∷
    edits "**T" (minus 5) 0 "**N" ∷
    edits "ZZV.9T" (pos 5) 2 "  .0E" ∷
    edits "$$,$$T" (pos 5) 0 "    $E" ∷
    edits "$$$R" (minus 12) 0 " $1K" ∷
    cuts "T" (minus 9) 1 "{" ∷
    cuts "I" (minus 9) 1 "{" ∷
    cuts "R" (minus 9) 1 "0" ∷
    refuses "T" (pos 10) 0 8 ∷
    refuses "9R" (minus 100) 0 8 ∷
    reads "9T" "1{" (pos 10) ∷
    reads "ZZT" "  {" (pos 0) ∷
    reads "ZT9" " }5" (minus 5) ∷
    reads "$$$R" " $1K" (minus 12) ∷
    rejects "I" "0" 10 ∷
    rejects "T" "0" 10 ∷
    rejects "T" "}" 10 ∷
    rejects "R" "}" 10 ∷
    rejects "99T" "00}" 10 ∷
    rejects "T" "5" 10 ∷
    rejects "I" "N" 10 ∷
    rejects "R" "E" 10 ∷
    rejects "T" "e" 10 ∷
    rejects "T" " " 10 ∷
    rejects "ZZT" "   " 10 ∷
    rejects "ZZT" "00{" 10 ∷
    rejects "9" "E" 10 ∷
    rejects "Z9" "E5" 10 ∷
    rejects "9T" "{5" 10 ∷ []

-- RULES 3.7: everything suppressed, signs, $ and insertions too, under Z, under * and under a drifting symbol; but not where there is a nine.
abbrev pub blanks : List Line
blanks =
    edits "S$Z,Z.Z/ZBZ" (pos 0) 0 "           " ∷
    edits "S$*,*.*/*B*" (pos 0) 0 "********* *" ∷
    cuts "ZZCR" (minus 9) 1 "    " ∷
    edits "ZZDB" (pos 0) 0 "    " ∷
    cuts "**CR" (minus 9) 1 "****" ∷
    edits "**DB" (pos 0) 0 "****" ∷
    edits "+ZZ" (pos 0) 0 "   " ∷
    edits "+**" (pos 0) 0 "***" ∷
    edits "-**" (pos 0) 0 "***" ∷
    edits "SS,SS" (pos 0) 0 "     " ∷
    edits "++" (pos 0) 0 "  " ∷
    edits "--V.--" (pos 0) 2 "     " ∷
    edits "$$CR" (pos 0) 0 "    " ∷
    edits "S$Z9" (pos 0) 0 "+$ 0" ∷
    edits "-**9" (pos 0) 0 " **0" ∷
    reads "+ZZ" "   " (pos 0) ∷
    reads "**CR" "****" (pos 0) ∷
    rejects "**CR" "**  " 10 ∷
    rejects "***" "   " 10 ∷
    rejects "$ZZ" "$  " 10 ∷ []

-- RULES 3.2 to 3.4, by the cut: a fraction goes toward zero, a zero has the sign plus, and what is then too big is refused.
abbrev pub alignment : List Line
alignment =
    cuts "S9V9" (pos 199) 2 "+19" ∷
    cuts "S9V9" (minus 199) 2 "-19" ∷
    cuts "9V99" (pos 5) 0 "500" ∷
    cuts "S9" (minus 9) 1 "+0" ∷
    cuts "+9" (minus 9) 1 "+0" ∷
    cuts "-9" (minus 9) 1 " 0" ∷
    cuts "9CR" (minus 9) 1 "0  " ∷
    cuts "9DB" (minus 9) 1 "0  " ∷
    cuts "SS9" (minus 9) 1 " +0" ∷
    cuts "++9" (minus 9) 1 " +0" ∷
    cuts "--9" (minus 9) 1 "  0" ∷
    cuts "9" (pos 5) 1 "0" ∷
    cuts "99" (pos 995) 1 "99" ∷
    cuts "9" (pos 99) 1 "9" ∷
    cut_refuses "9" (pos 100) 1 8 ∷
    cuts "V99" (pos 9999) 4 "99" ∷
    cut_refuses "V99" (pos 1) 0 8 ∷
    cut_refuses "S99" (minus 100) 0 8 ∷
    cuts "$ZV9" (minus 9) 2 "$ 0" ∷
    cut_refuses "$ZV9" (minus 10) 2 8 ∷ []

-- The same in rounding, here and there beside the cut.
abbrev pub rounding : List Line
rounding =
    -- a half, and what is next to it on either side, under both signs; behind an even digit and behind an odd one
    edits "9" (pos 5) 1 "1" ∷
    edits "9" (pos 4) 1 "0" ∷
    edits "9" (pos 49) 2 "0" ∷
    edits "9" (pos 51) 2 "1" ∷
    edits "9" (pos 15) 1 "2" ∷
    edits "9" (pos 25) 1 "3" ∷
    edits "-9" (minus 5) 1 "-1" ∷
    edits "-9" (minus 4) 1 " 0" ∷
    edits "-9" (minus 49) 2 " 0" ∷
    edits "-9" (minus 51) 2 "-1" ∷
    edits "-9" (minus 15) 1 "-2" ∷
    edits "-9" (minus 25) 1 "-3" ∷
    edits "S9V9" (pos 194) 2 "+19" ∷
    edits "S9V9" (minus 195) 2 "-20" ∷
    edits "9" (pos 499999999999999999) 18 "0" ∷
    edits "9" (pos 500000000000000000) 18 "1" ∷
    edits "9V(17)9" (pos 123456789012345678) 18 "012345678901234568" ∷
    -- nothing to round
    edits "9V99" (pos 5) 0 "500" ∷
    edits "9V99" (pos 55) 1 "550" ∷
    edits "9V99" (pos 555) 2 "555" ∷
    -- one more than nines
    edits "99V9" (pos 995) 2 "100" ∷
    edits "ZZ9V.99" (pos 9995) 3 " 10.00" ∷
    edits "ZZ,ZZ9" (pos 9995) 1 " 1,000" ∷
    edits "$$,$$9" (pos 9995) 1 "$1,000" ∷
    edits "(18)9" (pos 999999999999999999) 1 "100000000000000000" ∷
    -- which may be too big
    edits "99V9" (pos 9994) 2 "999" ∷
    edits "9" (pos 94) 1 "9" ∷
    refuses "9" (pos 95) 1 8 ∷
    refuses "99" (pos 995) 1 8 ∷
    refuses "9" (pos 100) 1 8 ∷
    edits "V9" (pos 94) 2 "9" ∷
    refuses "V9" (pos 95) 2 8 ∷
    edits "V(17)9" (pos 999999999999999994) 18 "99999999999999999" ∷
    refuses "V(17)9" (pos 999999999999999995) 18 8 ∷
    -- the sign is that of what is left, and a picture without one takes a zero
    edits "S999" (minus 1) 1 "+000" ∷
    edits "S999" (minus 5) 1 "-001" ∷
    cuts "S999" (minus 5) 1 "+000" ∷
    edits "99" (minus 4) 1 "00" ∷
    refuses "99" (minus 5) 1 8 ∷
    cuts "99" (minus 5) 1 "00" ∷
    edits "9CR" (minus 4) 1 "0  " ∷
    edits "9CR" (minus 5) 1 "1CR" ∷
    edits "++9" (minus 4) 1 " +0" ∷
    edits "++9" (minus 5) 1 "  1" ∷
    edits "T" (minus 4) 1 "{" ∷
    edits "T" (minus 5) 1 "J" ∷
    edits "I" (minus 4) 1 "{" ∷
    edits "I" (minus 5) 1 "1" ∷
    -- everything is suppressed where nothing is left
    edits "ZZZ" (pos 4) 1 "   " ∷
    edits "ZZZ" (pos 5) 1 "  1" ∷
    edits "**CR" (minus 4) 1 "****" ∷
    edits "**CR" (minus 5) 1 "*1CR" ∷ []

-- RULES 4.5: how far two values are apart, the second one's scale being that of one in the first one's last place.
abbrev pub distances : List Line
distances =
    differs (pos 1) 0 (pos 5) 1 5 ∷
    differs (pos 0) 0 (pos 4) 1 4 ∷
    differs (minus 1) 0 (pos 5) 1 15 ∷
    differs (minus 1) 0 (minus 5) 1 5 ∷
    differs (minus 20) 1 (minus 195) 2 50 ∷
    differs (pos 1234) 1 (pos 12345) 2 50 ∷
    differs (pos 550) 2 (pos 55) 1 0 ∷ []

-- RULES 4: reading takes each symbol's characters for both signs, and nothing else: no minus zero, no blank for a nine, no other fill.
abbrev pub readings : List Line
readings =
    reads "S9V9" "+19" (pos 19) ∷
    reads "S9V9" "-19" (minus 19) ∷
    reads "+9" "+5" (pos 5) ∷
    reads "+9" " 5" (minus 5) ∷
    reads "-9" " 5" (pos 5) ∷
    reads "-9" "-5" (minus 5) ∷
    reads "9CR" "5  " (pos 5) ∷
    reads "9CR" "5CR" (minus 5) ∷
    reads "9DB" "5  " (pos 5) ∷
    reads "9DB" "5DB" (minus 5) ∷
    reads "SSS9" " +12" (pos 12) ∷
    reads "SSS9" "  -5" (minus 5) ∷
    reads "+++9" "  70" (minus 70) ∷
    reads "---9" "-700" (minus 700) ∷
    reads "$$,$$9CR" "$1,234CR" (minus 1234) ∷
    reads "*,*.*/*B9" "****3/4 5" (pos 345) ∷
    rejects "S9" "-0" 10 ∷
    rejects "+9" " 0" 10 ∷
    rejects "-9" "-0" 10 ∷
    rejects "9CR" "0CR" 10 ∷
    rejects "9DB" "0DB" 10 ∷
    rejects "SS9" " -0" 10 ∷
    rejects "++9" "  0" 10 ∷
    rejects "--9" " -0" 10 ∷
    rejects "9CR" "5DB" 10 ∷
    rejects "9" " " 10 ∷
    rejects "9V9" "1 " 10 ∷
    rejects "ZZ9" "*12" 10 ∷
    rejects "9/9" "1-2" 10 ∷
    rejects "9B9" "1B2" 10 ∷
    rejects "$$9" "$ 5" 10 ∷ []

-- RULES 1: factors, the marks as the last two bytes beside R as a symbol, no other letter, and what is kept of a picture, in a room of 64.
abbrev pub texts : List Line
texts =
    accepts "(2)9(1)B9" 4 ∷
    accepts "(02)9" 2 ∷
    accepts "(3)Z" 3 ∷
    accepts "(3)*" 3 ∷
    accepts "(3)S" 3 ∷
    accepts "(3)+" 3 ∷
    accepts "(3)-" 3 ∷
    accepts "(3)$" 3 ∷
    accepts "(2),(2).(2)/(2)B9" 9 ∷
    accepts "9(2)B" 3 ∷
    accepts "9BDB" 4 ∷
    edits "9BDB" (minus 1) 0 "1 DB" ∷
    forbids "(003)9" 2 ∷
    forbids "()9" 2 ∷
    forbids "(1)(2)9" 2 ∷
    forbids "9(2)" 2 ∷
    forbids "9(1)V9" 2 ∷
    forbids "9(1)CR" 2 ∷
    forbids "9(1)DB" 2 ∷
    forbids "9CRV" 2 ∷
    forbids "9DBB" 2 ∷
    forbids "CR9" 2 ∷
    forbids "CRR" 2 ∷
    forbids "RCR" 4 ∷
    accepts "9R" 2 ∷
    edits "9R" (minus 11) 0 "1J" ∷
    edits "9CR" (minus 1) 0 "1CR" ∷
    accepts "(1)T" 1 ∷
    accepts "9(1)I" 2 ∷
    forbids "(2)T" 4 ∷
    forbids "(2)I" 4 ∷
    forbids "9(3)I" 4 ∷
    forbids "(1)R" 2 ∷
    forbids "(2)R" 2 ∷
    forbids "9D" 2 ∷
    forbids "9C" 2 ∷
    forbids "9CVR" 2 ∷
    forbids "( 2)9" 2 ∷
    forbids "z" 2 ∷
    forbids " 9" 2 ∷
    forbids "t" 2 ∷
    forbids "9i" 2 ∷
    forbids "r9" 2 ∷
    forbids "9Y" 2 ∷
    forbids "9E9" 2 ∷
    forbids "9K9" 2 ∷
    forbids "9F" 2 ∷
    forbids "A" 2 ∷
    forbids "X" 2 ∷
    forbids "9;" 2 ∷
    keeps "(2)9V9CR" (text "99V9CR" ++ replicate 58 0) 6 ∷
    keeps "9V(1)T" (text "9VT" ++ replicate 61 0) 3 ∷
    keeps "9R" (text "9R" ++ replicate 62 0) 2 ∷
    keeps "(61)B9CR" (replicate 61 66 ++ text "9CR") 64 ∷
    keeps "(64)9V" (replicate 64 0) 0 ∷
    keeps "9Z" (replicate 64 0) 0 ∷ []

-- RULES 2.5 to 2.12, each rule of shape: what breaks it, and beside it a neighbour that doesn't. Those on V and on what suppresses:
abbrev pub suppressions : List Line
suppressions =
    -- one V
    forbids "9V9V" 4 ∷
    forbids "VV9" 4 ∷
    accepts "9V9" 2 ∷
    -- one kind drifts, and one that occurs once doesn't
    forbids "++--" 4 ∷
    forbids "SS$$" 4 ∷
    accepts "S$$9" 4 ∷
    -- Z, * and drifting symbols each alone
    forbids "Z*" 4 ∷
    forbids "*Z9" 4 ∷
    forbids "Z$$" 4 ∷
    forbids "SSZ" 4 ∷
    forbids "$$*" 4 ∷
    forbids "*--" 4 ∷
    accepts "$Z" 2 ∷
    accepts "-**" 3 ∷
    -- nothing suppressible behind a nine
    forbids "9*" 4 ∷
    forbids "9$$" 4 ∷
    forbids "$$9$" 4 ∷
    forbids "TZ" 4 ∷
    forbids "I*" 4 ∷
    forbids "R$$" 4 ∷
    accepts "Z9" 2 ∷
    accepts "ZT" 2 ∷
    -- one behind V only where all are suppressible
    forbids "9VZ" 4 ∷
    forbids "ZVZ9" 4 ∷
    forbids "V**9" 4 ∷
    forbids "$$9V$" 4 ∷
    forbids "IVZ" 4 ∷
    forbids "ZVZT" 4 ∷
    forbids "ZVZI" 4 ∷
    forbids "ZVZR" 4 ∷
    accepts "ZVZ" 2 ∷
    accepts "$$V$" 3 ∷
    accepts "ZV9" 2 ∷
    accepts "ZVR" 2 ∷
    -- a drifting symbol begins left of V
    forbids "V$$" 4 ∷
    forbids "V,--" 4 ∷
    forbids "V++9" 4 ∷
    accepts "$V$" 2 ∷
    accepts "V$9" 2 ∷
    accepts "9-V" 2 ∷ []

-- Those on signs and static symbols:
abbrev pub placements : List Line
placements =
    -- one sign
    forbids "S+9" 4 ∷
    forbids "S9-" 4 ∷
    forbids "+9-" 4 ∷
    forbids "-9CR" 4 ∷
    forbids "+9DB" 4 ∷
    forbids "S9CR" 4 ∷
    forbids "SS9DB" 4 ∷
    forbids "--9CR" 4 ∷
    forbids "++9S" 4 ∷
    forbids "TT" 4 ∷
    forbids "T9I" 4 ∷
    forbids "RI" 4 ∷
    forbids "RVR" 4 ∷
    forbids "S9T" 4 ∷
    forbids "I9+" 4 ∷
    forbids "-R" 4 ∷
    forbids "TCR" 4 ∷
    forbids "IDB" 4 ∷
    forbids "SST" 4 ∷
    forbids "++I" 4 ∷
    forbids "--9R" 4 ∷
    forbids "TR" 4 ∷
    forbids "II" 4 ∷
    forbids "T+" 4 ∷
    forbids "-T" 4 ∷
    forbids "TDB" 4 ∷
    forbids "S9I" 4 ∷
    forbids "-9I" 4 ∷
    forbids "ICR" 4 ∷
    forbids "RS" 4 ∷
    forbids "+9R" 4 ∷
    forbids "RDB" 4 ∷
    forbids "++T" 4 ∷
    forbids "--9T" 4 ∷
    forbids "SSI" 4 ∷
    forbids "--I" 4 ∷
    forbids "SSR" 4 ∷
    forbids "++9R" 4 ∷
    accepts "$9CR" 4 ∷
    accepts "$T" 2 ∷
    accepts "$$9I" 4 ∷
    accepts "$$9DB" 5 ∷
    -- a static symbol outside the digits and the drifting symbols
    forbids "9$9" 4 ∷
    forbids "9S9" 4 ∷
    forbids "ZV-Z" 4 ∷
    forbids "T$9" 4 ∷
    forbids "I$9" 4 ∷
    forbids "R$9" 4 ∷
    forbids "9$T" 4 ∷
    forbids "9$I" 4 ∷
    forbids "9$R" 4 ∷
    forbids "$S$" 4 ∷
    forbids "S$S" 4 ∷
    forbids "$$S9" 4 ∷
    accepts "S$9" 3 ∷
    accepts "9S$" 3 ∷
    accepts "S9$" 3 ∷
    accepts "9T$" 3 ∷
    accepts "$$9S" 4 ∷
    -- which isn't judged where there is no digit, though the others are
    forbids "S$" 5 ∷
    forbids "$,S" 5 ∷
    forbids "S+" 4 ∷
    forbids "+DB" 4 ∷
    forbids "VV" 4 ∷ []

-- The longest picture text: 128 bytes, of 28 positions.
abbrev pub longest : String
longest = joined (repeated 25 "(01)B") "999"

-- RULES 1.1, 1.4, 1.5 and 2.13: each limit of a picture, on both sides.
abbrev pub limits : List Line
limits =
    -- bytes of a text
    forbids "" 1 ∷
    accepts "9" 1 ∷
    accepts longest 28 ∷
    forbids (joined longest "9") 1 ∷
    forbids (repeated 128 "9") 3 ∷
    forbids (repeated 129 "9") 1 ∷
    -- a factor
    forbids "(0)B9" 2 ∷
    forbids "(00)B9" 2 ∷
    accepts "(1)B9" 2 ∷
    forbids "(64)B" 5 ∷
    forbids "(65)B" 2 ∷
    -- symbols, where V counts one and a mark two
    accepts "(63)B9" 64 ∷
    forbids "(64)B9" 3 ∷
    accepts "(62)B9V" 63 ∷
    forbids "(63)B9V" 3 ∷
    accepts "(61)B9CR" 64 ∷
    forbids "(62)B9CR" 3 ∷
    accepts "(60)B9VDB" 63 ∷
    forbids "(61)B9VDB" 3 ∷
    -- digits
    forbids "B" 5 ∷
    forbids "V" 5 ∷
    accepts "(16)9" 16 ∷
    accepts "(17)*" 17 ∷
    accepts "(18)Z" 18 ∷
    forbids "(19)Z" 5 ∷
    accepts "(19)$" 19 ∷
    forbids "(20)$" 5 ∷
    accepts "(19)-" 19 ∷
    forbids "(20)-" 5 ∷
    accepts "(9)9V(9)9" 18 ∷
    forbids "(9)9V(10)9" 5 ∷
    accepts "(17)9T" 18 ∷
    forbids "(18)9T" 5 ∷ []

-- RULES 3.1: each limit of a value, on both sides; and the largest values and the smallest through every call, and back.
abbrev pub values : List Line
values =
    -- its scale
    edits "V(16)9" (pos 123) 16 "0000000000000123" ∷
    edits "V(18)9" (pos 123) 18 "000000000000000123" ∷
    refuses "V(18)9" (pos 123) 19 6 ∷
    edits "9" (pos 0) 18 "0" ∷
    refuses "9" (pos 0) 19 6 ∷
    -- its magnitude, edited and read back
    edits "S(18)9" (pos 1000000000000000) 0 "+001000000000000000" ∷
    edits "S(18)9" (pos 999999999999999999) 0 "+999999999999999999" ∷
    refuses "S(18)9" (pos 1000000000000000000) 0 6 ∷
    edits "S(18)9" (minus 999999999999999999) 0 "-999999999999999999" ∷
    refuses "S(18)9" (minus 1000000000000000000) 0 6 ∷
    edits "(19)-" (minus 999999999999999999) 0 "-999999999999999999" ∷
    edits "(17)9R" (minus 999999999999999999) 0 "99999999999999999R" ∷
    reads "S(18)9" "+999999999999999999" (pos 999999999999999999) ∷
    reads "S(18)9" "-999999999999999999" (minus 999999999999999999) ∷
    reads "(17)9R" "99999999999999999R" (minus 999999999999999999) ∷
    -- both: brought to 17 places, where the product with a power of ten may pass 64 bits, and to 18 places and none
    refuses "9V(17)9" (pos 999999999999999999) 0 8 ∷
    refuses "9V(17)9" (pos 1000000000000000000) 0 6 ∷
    refuses "9V(17)9" (pos 10) 0 8 ∷
    edits "9V(17)9" (pos 9) 0 "900000000000000000" ∷
    edits "V(18)9" (pos 999999999999999999) 18 "999999999999999999" ∷
    edits "9" (pos 999999999999999999) 18 "1" ∷
    cuts "9" (pos 999999999999999999) 18 "0" ∷
    -- by plans, into a run and in a listing
    compiles "(18)9;" (1 ∷ 18 ∷ 18 ∷ 0 ∷ 0 ∷ 18 ∷ replicate 18 0) ∷
    plan_reads "S(18)9;S(18)9;" "+999999999999999999-999999999999999999" (pos 5 ∷ pos 5 ∷ []) (success 2 (pos 0)) (pos 999999999999999999 ∷ minus 999999999999999999 ∷ []) ∷
    plan_edits "S(18)9;9;" (minus 999999999999999999 ∷ pos 1 ∷ []) "####################" (success 20 (pos 0)) "-9999999999999999991" ∷
    plan_edits "V(18)9;9;" (pos 999999999999999999 ∷ pos 1 ∷ []) "###################" (success 19 (pos 0)) "9999999999999999991" ∷
    plan_edits "9;S(18)9;" (pos 1 ∷ minus 1000000000000000000 ∷ []) "####################" (refusal 6 2) "####################" ∷
    reads_run "S(18)9" "+999999999999999999" (replicate 8 238) 65536 (255 ∷ 255 ∷ 99 ∷ 167 ∷ 179 ∷ 182 ∷ 224 ∷ 13 ∷ []) ∷
    reads_run "S(18)9" "-999999999999999999" (replicate 8 238) 65536 (1 ∷ 0 ∷ 156 ∷ 88 ∷ 76 ∷ 73 ∷ 31 ∷ 242 ∷ []) ∷
    lists "S(18)9;\n-999999999999999999\n+999999999999999999\n" "0,0,0,1,19\n1,0,0,-999999999999999999\n2,0,0,999999999999999999\n" ∷ []

-- RULES 5.1: each limit of a layout, on both sides.
abbrev pub layouts : List Line
layouts =
    spoils "" 11 0 ∷
    spoils "9" 11 0 ∷
    spoils "9;9" 11 0 ∷
    spoils ";" 1 1 ∷
    compiles (repeated 32 "9;") (32 ∷ series 32 (1 ∷ 1 ∷ 0 ∷ []) ++ (0 ∷ 32 ∷ replicate 32 0)) ∷
    spoils (repeated 33 "9;") 11 0 ∷
    spoils (repeated 32 ";") 1 1 ∷
    spoils (repeated 33 ";") 11 0 ∷
    -- 4,128 bytes are no COUNT: the first picture's SYMBOL comes back; and 4,129
    spoils (repeated 32 (joined (repeated 128 "Q") ";")) 2 1 ∷
    spoils (joined (repeated 31 (joined (repeated 128 "Q") ";")) (joined (repeated 129 "Q") ";")) 11 0 ∷ []

-- RULES 6.5: what is written stands first in the lent memory; the rest of it stays, and a refusal leaves all of it.
abbrev pub memory : List Line
memory =
    edits_into "99" (pos 7) 0 "####" (success 2 (pos 0)) "07##" ∷
    edits_into "99" (pos 7) 0 "#" (refusal 7 0) "#" ∷
    edits_into "99" (pos 100) 0 "####" (refusal 8 0) "####" ∷
    edits_into "99" (pos 75) 1 "####" (success 2 (pos 0)) "08##" ∷
    edits_into "99" (pos 995) 1 "####" (refusal 8 0) "####" ∷
    cuts_into "99" (pos 75) 1 "####" (success 2 (pos 0)) "07##" ∷
    cuts_into "99" (pos 75) 1 "#" (refusal 7 0) "#" ∷
    cuts_into "99" (pos 1000) 1 "####" (refusal 8 0) "####" ∷
    compiles_into "9;" (replicate 8 99) (success 7 (pos 0)) (1 ∷ 1 ∷ 1 ∷ 0 ∷ 0 ∷ 1 ∷ 0 ∷ 99 ∷ []) ∷
    compiles_into "9;" (replicate 6 99) (refusal 7 0) (replicate 6 99) ∷
    compiles_into "9Z;" (replicate 8 99) (refusal 4 1) (replicate 8 99) ∷
    plan_reads "9;99;S9;" "122-3" (pos 5 ∷ pos 5 ∷ pos 5 ∷ pos 5 ∷ []) (success 3 (pos 0)) (pos 1 ∷ pos 22 ∷ minus 3 ∷ pos 5 ∷ []) ∷
    plan_reads "9;99;S9;" "122-x" (pos 5 ∷ pos 5 ∷ pos 5 ∷ []) (refusal 10 3) (pos 5 ∷ pos 5 ∷ pos 5 ∷ []) ∷
    plan_edits "9;99V9;S9;" (pos 9 ∷ pos 7 ∷ minus 9 ∷ []) "########" (success 6 (pos 0)) "9007-9##" ∷
    plan_edits "9;99V9;S9;" (pos 9 ∷ pos 7 ∷ minus 10 ∷ []) "########" (refusal 8 3) "########" ∷ []

-- RULES 6.6, the order of refusals: of each two that follow one another both apply, and the first is given. In calls on one picture:
abbrev pub orders : List Line
orders =
    -- a picture: 1, 2, 3, 4, 5
    forbids (repeated 129 "Q") 1 ∷
    forbids "(64)9(64)9Q" 2 ∷
    forbids "(64)9Z" 3 ∷
    forbids "(19)9Z" 4 ∷
    forbids "(19)9" 5 ∷
    -- editing a value: picture, 6, 8, 7
    refuses "9Z" (pos 1000000000000000000) 0 4 ∷
    refuses "(19)9" (pos 1) 19 5 ∷
    refuses "9" (minus 1000000000000000000) 0 6 ∷
    refuses "9" (pos 100) 19 6 ∷
    edits_into "9" (pos 10) 0 "" (refusal 8 0) "" ∷
    edits_into "9" (pos 9) 0 "" (refusal 7 0) "" ∷
    edits_into "9" (pos 95) 1 "" (refusal 8 0) "" ∷
    -- by the cut: the same
    cut_refuses "9Z" (pos 1000000000000000000) 0 4 ∷
    cut_refuses "(19)9" (pos 1) 19 5 ∷
    cut_refuses "9" (minus 1000000000000000000) 0 6 ∷
    cut_refuses "9" (pos 100) 19 6 ∷
    cuts_into "9" (pos 10) 0 "" (refusal 8 0) "" ∷
    cuts_into "9" (pos 95) 1 "" (refusal 7 0) "" ∷
    -- reading a field: picture, 9, 10
    rejects "9Z" "x" 4 ∷
    rejects "(19)9" "" 5 ∷
    rejects "9" "" 9 ∷
    rejects "9" "xx" 9 ∷
    rejects "9" "x" 10 ∷ []

-- In calls on layouts and plans, behind 12:
abbrev pub plan_orders : List Line
plan_orders =
    -- compiling: 11, a bad picture, 7
    spoils "9Z;9" 11 0 ∷
    spoils "9;Z;9Z;Q;" 4 3 ∷
    spoils "9;;" 1 2 ∷
    spoils "Q;9Z;" 2 1 ∷
    spoils "9;(64)9V;" 3 2 ∷
    spoils "9;9;CR;" 5 3 ∷
    compiles_into "9;9Z;" [] (refusal 4 2) [] ∷
    compiles_into "9;" [] (refusal 7 0) [] ∷
    -- reading a record: 9, 7, 10 at the first field that has it
    plan_reads "9;99;S9;" "x" [] (refusal 9 0) [] ∷
    plan_reads "9;99;S9;" "x22+33" (pos 5 ∷ pos 5 ∷ pos 5 ∷ []) (refusal 9 0) (pos 5 ∷ pos 5 ∷ pos 5 ∷ []) ∷
    plan_reads "9;99;S9;" "x22+3" (pos 5 ∷ pos 5 ∷ []) (refusal 7 0) (pos 5 ∷ pos 5 ∷ []) ∷
    plan_reads "9;99;S9;" "12x 3" (pos 5 ∷ pos 5 ∷ pos 5 ∷ []) (refusal 10 2) (pos 5 ∷ pos 5 ∷ pos 5 ∷ []) ∷
    -- editing a row: 9, the first field that has 6 or 8 and of one field 6, 7
    plan_edits "9;99V9;S9;" (pos 10 ∷ pos 1000000000000000000 ∷ []) "" (refusal 9 0) "" ∷
    plan_edits "9;99V9;S9;" (pos 1 ∷ pos 2 ∷ pos 3 ∷ pos 4 ∷ []) "######" (refusal 9 0) "######" ∷
    plan_edits "9;99V9;S9;" (pos 10 ∷ pos 1000000000000000000 ∷ pos 0 ∷ []) "######" (refusal 8 1) "######" ∷
    plan_edits "9;99V9;S9;" (pos 9 ∷ minus 1000000000000000000 ∷ pos 10 ∷ []) "######" (refusal 6 2) "######" ∷
    plan_edits "9;99V9;S9;" (pos 9 ∷ minus 1 ∷ minus 9 ∷ []) "" (refusal 8 2) "" ∷
    plan_edits "9;99V9;S9;" (pos 9 ∷ pos 999 ∷ pos 1000000000000000000 ∷ []) "" (refusal 6 3) "" ∷
    plan_edits "9;99V9;S9;" (pos 9 ∷ pos 999 ∷ minus 9 ∷ []) "#####" (refusal 7 0) "#####" ∷ []

-- RULES 5.3, each byte of a plan: the roles 0 to 17, the kinds 0 to 6, V at every place, and a record length of two bytes.
abbrev pub plans : List Line
plans =
    compiles "9;" (1 ∷ 1 ∷ 1 ∷ 0 ∷ 0 ∷ 1 ∷ 0 ∷ []) ∷
    compiles "ZZ9;" (1 ∷ 3 ∷ 3 ∷ 1 ∷ 0 ∷ 3 ∷ 1 ∷ 1 ∷ 0 ∷ []) ∷
    compiles "**;" (1 ∷ 2 ∷ 2 ∷ 2 ∷ 0 ∷ 2 ∷ 1 ∷ 1 ∷ []) ∷
    compiles "SS9;" (1 ∷ 3 ∷ 3 ∷ 3 ∷ 0 ∷ 3 ∷ 2 ∷ 1 ∷ 0 ∷ []) ∷
    compiles "++9;" (1 ∷ 3 ∷ 3 ∷ 4 ∷ 0 ∷ 3 ∷ 2 ∷ 1 ∷ 0 ∷ []) ∷
    compiles "--9;" (1 ∷ 3 ∷ 3 ∷ 5 ∷ 0 ∷ 3 ∷ 2 ∷ 1 ∷ 0 ∷ []) ∷
    compiles "$$9;" (1 ∷ 3 ∷ 3 ∷ 6 ∷ 0 ∷ 3 ∷ 2 ∷ 1 ∷ 0 ∷ []) ∷
    compiles "S9;" (1 ∷ 2 ∷ 2 ∷ 0 ∷ 0 ∷ 2 ∷ 3 ∷ 0 ∷ []) ∷
    compiles "+9;" (1 ∷ 2 ∷ 2 ∷ 0 ∷ 0 ∷ 2 ∷ 4 ∷ 0 ∷ []) ∷
    compiles "-9;" (1 ∷ 2 ∷ 2 ∷ 0 ∷ 0 ∷ 2 ∷ 5 ∷ 0 ∷ []) ∷
    compiles "$9;" (1 ∷ 2 ∷ 2 ∷ 0 ∷ 0 ∷ 2 ∷ 6 ∷ 0 ∷ []) ∷
    compiles "9,./B;" (1 ∷ 5 ∷ 5 ∷ 0 ∷ 0 ∷ 5 ∷ 0 ∷ 7 ∷ 8 ∷ 9 ∷ 10 ∷ []) ∷
    compiles "9CR;" (1 ∷ 3 ∷ 3 ∷ 0 ∷ 0 ∷ 3 ∷ 0 ∷ 11 ∷ 12 ∷ []) ∷
    compiles "9DB;" (1 ∷ 3 ∷ 3 ∷ 0 ∷ 0 ∷ 3 ∷ 0 ∷ 13 ∷ 14 ∷ []) ∷
    compiles "9T;" (1 ∷ 2 ∷ 2 ∷ 0 ∷ 0 ∷ 2 ∷ 0 ∷ 15 ∷ []) ∷
    compiles "ZZI;" (1 ∷ 3 ∷ 3 ∷ 1 ∷ 0 ∷ 3 ∷ 1 ∷ 1 ∷ 16 ∷ []) ∷
    compiles "9R;" (1 ∷ 2 ∷ 2 ∷ 0 ∷ 0 ∷ 2 ∷ 0 ∷ 17 ∷ []) ∷
    compiles "RV9;" (1 ∷ 2 ∷ 1 ∷ 0 ∷ 0 ∷ 2 ∷ 17 ∷ 0 ∷ []) ∷
    compiles "9V9;" (1 ∷ 2 ∷ 1 ∷ 0 ∷ 0 ∷ 2 ∷ 0 ∷ 0 ∷ []) ∷
    compiles "V9;" (1 ∷ 1 ∷ 0 ∷ 0 ∷ 0 ∷ 1 ∷ 0 ∷ []) ∷
    compiles "9V;" (1 ∷ 1 ∷ 1 ∷ 0 ∷ 0 ∷ 1 ∷ 0 ∷ []) ∷
    compiles "9VCR;" (1 ∷ 3 ∷ 1 ∷ 0 ∷ 0 ∷ 3 ∷ 0 ∷ 11 ∷ 12 ∷ []) ∷
    compiles (repeated 5 "(63)B9;") (5 ∷ series 5 (64 ∷ 64 ∷ 0 ∷ []) ++ (1 ∷ 64 ∷ series 5 (replicate 63 10 ++ (0 ∷ [])))) ∷ []

-- RULES 5.4, bytes that are no plan: no field, a byte less or more, another count, the count's bytes exchanged, a kind that no position bears out, a byte
-- past the roles, V within a mark, half a mark, a mark that ends in the symbol R, two signs, two punched ones, a drifting one and a mark beside a punched
-- one, a suppressible digit behind one, a symbol drifting and static, one drifting alone, two dollar signs, a suppressible digit between V and a
-- nine, 64 positions and a V, 19 digits, 33 fields.
abbrev pub no_plans : List Line
no_plans =
    no_plan [] ∷
    no_plan (0 ∷ 0 ∷ 0 ∷ []) ∷
    no_plan (1 ∷ 1 ∷ 1 ∷ 0 ∷ 0 ∷ 1 ∷ []) ∷
    no_plan (1 ∷ 1 ∷ 1 ∷ 0 ∷ 0 ∷ 1 ∷ 0 ∷ 0 ∷ []) ∷
    no_plan (1 ∷ 1 ∷ 1 ∷ 0 ∷ 0 ∷ 2 ∷ 0 ∷ []) ∷
    no_plan (1 ∷ 1 ∷ 1 ∷ 0 ∷ 1 ∷ 0 ∷ 0 ∷ []) ∷
    no_plan (1 ∷ 1 ∷ 1 ∷ 1 ∷ 0 ∷ 1 ∷ 0 ∷ []) ∷
    no_plan (1 ∷ 1 ∷ 1 ∷ 7 ∷ 0 ∷ 1 ∷ 0 ∷ []) ∷
    no_plan (1 ∷ 1 ∷ 2 ∷ 0 ∷ 0 ∷ 1 ∷ 0 ∷ []) ∷
    no_plan (1 ∷ 2 ∷ 2 ∷ 0 ∷ 0 ∷ 2 ∷ 0 ∷ 18 ∷ []) ∷
    no_plan (1 ∷ 2 ∷ 2 ∷ 1 ∷ 0 ∷ 2 ∷ 0 ∷ 1 ∷ []) ∷
    no_plan (1 ∷ 3 ∷ 2 ∷ 0 ∷ 0 ∷ 3 ∷ 0 ∷ 11 ∷ 12 ∷ []) ∷
    no_plan (1 ∷ 3 ∷ 3 ∷ 0 ∷ 0 ∷ 3 ∷ 0 ∷ 13 ∷ 10 ∷ []) ∷
    no_plan (1 ∷ 3 ∷ 3 ∷ 0 ∷ 0 ∷ 3 ∷ 0 ∷ 11 ∷ 17 ∷ []) ∷
    no_plan (1 ∷ 2 ∷ 2 ∷ 0 ∷ 0 ∷ 2 ∷ 0 ∷ 12 ∷ []) ∷
    no_plan (1 ∷ 3 ∷ 3 ∷ 0 ∷ 0 ∷ 3 ∷ 3 ∷ 0 ∷ 5 ∷ []) ∷
    no_plan (1 ∷ 3 ∷ 3 ∷ 0 ∷ 0 ∷ 3 ∷ 3 ∷ 0 ∷ 15 ∷ []) ∷
    no_plan (1 ∷ 2 ∷ 2 ∷ 0 ∷ 0 ∷ 2 ∷ 15 ∷ 17 ∷ []) ∷
    no_plan (1 ∷ 2 ∷ 2 ∷ 1 ∷ 0 ∷ 2 ∷ 16 ∷ 1 ∷ []) ∷
    no_plan (1 ∷ 3 ∷ 3 ∷ 5 ∷ 0 ∷ 3 ∷ 2 ∷ 1 ∷ 15 ∷ []) ∷
    no_plan (1 ∷ 3 ∷ 3 ∷ 0 ∷ 0 ∷ 3 ∷ 17 ∷ 11 ∷ 12 ∷ []) ∷
    no_plan (1 ∷ 3 ∷ 3 ∷ 3 ∷ 0 ∷ 3 ∷ 3 ∷ 2 ∷ 1 ∷ []) ∷
    no_plan (1 ∷ 2 ∷ 2 ∷ 3 ∷ 0 ∷ 2 ∷ 2 ∷ 0 ∷ []) ∷
    no_plan (1 ∷ 3 ∷ 3 ∷ 0 ∷ 0 ∷ 3 ∷ 6 ∷ 0 ∷ 6 ∷ []) ∷
    no_plan (1 ∷ 3 ∷ 1 ∷ 1 ∷ 0 ∷ 3 ∷ 1 ∷ 1 ∷ 0 ∷ []) ∷
    no_plan (1 ∷ 64 ∷ 1 ∷ 0 ∷ 0 ∷ 64 ∷ 0 ∷ replicate 63 10) ∷
    no_plan (1 ∷ 19 ∷ 19 ∷ 0 ∷ 0 ∷ 19 ∷ replicate 19 0) ∷
    no_plan (33 ∷ series 33 (1 ∷ 1 ∷ 0 ∷ []) ++ (0 ∷ 33 ∷ replicate 33 0)) ∷ []

-- RULES 7: the number, 256 times the field and 65,536 times the length as one; a row as eight bytes a number, the low byte first and a
-- negative one in two's complement; and a field read into a run: picture, 9, 7, 10.
abbrev pub runs : List Line
runs =
    packs (success 17 (pos 0)) 1114112 ∷
    packs (success 1 (minus 7)) 65536 ∷
    packs (refusal 12 0) 12 ∷
    packs (refusal 10 1) 266 ∷
    packs (refusal 10 2) 522 ∷
    packs (refusal 4 2) 516 ∷
    packs (refusal 8 32) 8200 ∷
    stores (pos 258 ∷ []) (2 ∷ 1 ∷ 0 ∷ 0 ∷ 0 ∷ 0 ∷ 0 ∷ 0 ∷ []) ∷
    stores (minus 2 ∷ []) (254 ∷ 255 ∷ 255 ∷ 255 ∷ 255 ∷ 255 ∷ 255 ∷ 255 ∷ []) ∷
    stores (pos 7 ∷ minus 1 ∷ []) (7 ∷ 0 ∷ 0 ∷ 0 ∷ 0 ∷ 0 ∷ 0 ∷ 0 ∷ replicate 8 255) ∷
    stores (pos 999999999999999999 ∷ []) (255 ∷ 255 ∷ 99 ∷ 167 ∷ 179 ∷ 182 ∷ 224 ∷ 13 ∷ []) ∷
    stores (minus 999999999999999999 ∷ []) (1 ∷ 0 ∷ 156 ∷ 88 ∷ 76 ∷ 73 ∷ 31 ∷ 242 ∷ []) ∷
    reads_run "-9" "-2" (replicate 9 238) 65536 (254 ∷ 255 ∷ 255 ∷ 255 ∷ 255 ∷ 255 ∷ 255 ∷ 255 ∷ 238 ∷ []) ∷
    reads_run "9Z" "1" [] 4 [] ∷
    reads_run "-9" "x" (replicate 7 238) 9 (replicate 7 238) ∷
    reads_run "-9" "-0" (replicate 7 238) 7 (replicate 7 238) ∷
    reads_run "-9" "-0" (replicate 8 238) 10 (replicate 8 238) ∷ []

-- RULES 8: the layout alone, a last line with and without its LF, empty lines, a layout that is refused with its number and field, records
-- of another length, any byte but LF kept, and negative values.
abbrev pub listings : List Line
listings =
    lists "9;" "0,0,0,1,1\n" ∷
    lists "9;\n" "0,0,0,1,1\n" ∷
    lists "9;\n5" "0,0,0,1,1\n1,0,0,5\n" ∷
    lists "9;\n5\n" "0,0,0,1,1\n1,0,0,5\n" ∷
    lists "9;\n\n5\n\n" "0,0,0,1,1\n1,9,0\n2,0,0,5\n3,9,0\n" ∷
    lists "\n" "0,11,0\n" ∷
    lists "\n9;\n5\n" "0,11,0\n" ∷
    lists "9\n5\n" "0,11,0\n" ∷
    lists "9;Z9Z;\n5555\n5\n" "0,4,2\n" ∷
    lists "9;CR;\n5CR\n5  \n" "0,5,2\n" ∷
    lists "9;\n55\n5\n" "0,0,0,1,1\n1,9,0\n2,0,0,5\n" ∷
    lists "9;\r\n5\r\n" "0,11,0\n" ∷
    lists "9;\n5\r\n \n" "0,0,0,1,1\n1,9,0\n2,10,1\n" ∷
    lists "9V9T;9;\n12L1\n12C2\n1233\n12L}\n" "0,0,0,2,4\n1,0,0,-123,1\n2,0,0,123,2\n3,10,1\n4,10,2\n" ∷
    lists "S9V9;99;\n-1207\n+0007\n-0007\n+12x7\n" "0,0,0,2,5\n1,0,0,-12,7\n2,0,0,0,7\n3,10,1\n4,10,2\n" ∷ []

-- All of them as one list.
abbrev pub ours : List Line
ours = statics ++ drifting ++ insertions ++ gaps ++ digits ++ punches ++ punched ++ blanks ++ alignment ++ rounding ++ distances ++ readings ++ texts ++ suppressions ++ placements ++ limits ++ values ++ layouts ++ memory ++ orders ++ plan_orders ++ plans ++ no_plans ++ runs ++ listings
