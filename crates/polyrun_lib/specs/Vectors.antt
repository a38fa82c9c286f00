-- The table of answers of each field: commands, and what the program writes for them.
use Rattle.std.specs.Prelude.{◌≡◌, ℕ, ◌⊎◌, List, [], ◌∷◌, ◌++◌, codes}
use Rattle.polyrun_lib.specs.Lines.{ended}

-- the words after the field, and a text without the newline at its end
abbrev pub Row : Type 0
Row = List (List ℕ) × List ℕ

abbrev pub rows_5 : List Row
rows_5 =
    (codes "fft" ∷ codes "4" ∷ codes "1" ∷ codes "1,2,3,4" ∷ [], codes "0,4,3,2")
    ∷ (codes "ifft" ∷ codes "4" ∷ codes "1" ∷ codes "1,2,3,4" ∷ [], codes "0,3,2,1")
    ∷ (codes "fft" ∷ codes "2" ∷ codes "2" ∷ codes "1,1" ∷ [], codes "3,4")
    ∷ (codes "mul" ∷ codes "1,0,1" ∷ codes "1,0,1" ∷ [], codes "error 2: NoDomain")
    ∷ (codes "div" ∷ codes "1,2,3" ∷ codes "1,2" ∷ [], ended (codes "4,4") ++ codes "2")
    ∷ []

abbrev pub rows_433 : List Row
rows_433 =
    (codes "size" ∷ codes "5" ∷ [], codes "8")
    ∷ (codes "size" ∷ codes "17" ∷ [], codes "18")
    ∷ (codes "size" ∷ codes "432" ∷ [], codes "432")
    ∷ (codes "size" ∷ codes "433" ∷ [], codes "error 2: NoDomain")
    ∷ (codes "mul" ∷ codes "1,1,1,1,1,1,1,1,1" ∷ codes "1,1,1,1,1,1,1,1,1" ∷ [], codes "1,2,3,4,5,6,7,8,9,8,7,6,5,4,3,2,1")
    ∷ (codes "fft" ∷ codes "17" ∷ codes "1" ∷ codes "0,1" ∷ [], codes "1,137,150,199,417,406,198,280,256,432,296,283,234,16,27,235,153,177")
    ∷ []

abbrev pub rows_65537 : List Row
rows_65537 =
    (codes "fft" ∷ codes "8" ∷ codes "1" ∷ codes "1,2" ∷ [], codes "3,8193,65026,33,65536,57346,513,65506")
    ∷ (codes "div" ∷ codes "4,8,5,1" ∷ codes "1,1" ∷ [], ended (codes "4,4,1"))
    ∷ (codes "mle" ∷ codes "2" ∷ codes "0,0,1,0" ∷ codes "65535,17" ∷ [], codes "51")
    ∷ (codes "mle" ∷ codes "2" ∷ codes "2,3,2,6" ∷ codes "1,17" ∷ [], codes "54")
    ∷ (codes "mle" ∷ codes "3" ∷ codes "0,2,0,2,0,3,1,4" ∷ codes "123,456,789" ∷ [], codes "63855")
    ∷ (codes "eval" ∷ codes "1,2" ∷ codes "65538" ∷ [], codes "3")
    ∷ []

abbrev pub rows_babybear : List Row
rows_babybear =
    (codes "fft" ∷ codes "4" ∷ codes "1" ∷ codes "1,2,3,4" ∷ [], codes "10,569722814,2013265919,1443543103")
    ∷ (codes "eval" ∷ codes "1,2,3" ∷ codes "1606938044258990275541962092341162602522202993782792835301376" ∷ [], codes "1390189409")
    ∷ (codes "size" ∷ codes "134217729" ∷ [], codes "error 2: NoDomain")
    ∷ []

abbrev pub rows_koalabear : List Row
rows_koalabear =
    (codes "ifft" ∷ codes "4" ∷ codes "3" ∷ codes "1,2,3,4" ∷ [], codes "1065353219,2127921153,591862898,1578610537")
    ∷ (codes "eval" ∷ codes "1,2,3" ∷ codes "1606938044258990275541962092341162602522202993782792835301376" ∷ [], codes "1120682415")
    ∷ (codes "size" ∷ codes "16777216" ∷ [], codes "16777216")
    ∷ []

abbrev pub rows_goldilocks : List Row
rows_goldilocks =
    (codes "fft" ∷ codes "4" ∷ codes "1" ∷ codes "1,2,3,4" ∷ [], codes "10,18446181119461163007,18446744069414584319,562949953421310")
    ∷ (codes "div" ∷ codes "1,2,3" ∷ codes "1,2" ∷ [], ended (codes "13835058052060938241,9223372034707292162") ++ codes "4611686017353646081")
    ∷ (codes "size" ∷ codes "4294967297" ∷ [], codes "error 2: NoDomain")
    ∷ []

abbrev pub rows_bls12_381 : List Row
rows_bls12_381 =
    (codes "fft" ∷ codes "2" ∷ codes "3" ∷ codes "5,7" ∷ [], codes "26,52435875175126190479447740508185965837690552500527637822603658699938581184497")
    ∷ (codes "eval" ∷ codes "1,2,3" ∷ codes "1606938044258990275541962092341162602522202993782792835301376" ∷ [], codes "38531783116717978832573997254792410813253688619140314645020336223475605033205")
    ∷ (codes "mul" ∷ codes "1,52435875175126190479447740508185965837690552500527637822603658699938581184512" ∷ codes "1,1" ∷ [], codes "1,0,52435875175126190479447740508185965837690552500527637822603658699938581184512")
    ∷ (codes "size" ∷ codes "18446744073709551616" ∷ [], codes "error 2: NoDomain")
    ∷ []

abbrev pub rows_bn254 : List Row
rows_bn254 =
    (codes "ifft" ∷ codes "2" ∷ codes "1" ∷ codes "12,21888242871839275222246405745257275088548364400416034343698204186575808495615" ∷ [], codes "5,7")
    ∷ (codes "eval" ∷ codes "1,2" ∷ codes "21888242871839275222246405745257275088548364400416034343698204186575808495620" ∷ [], codes "7")
    ∷ (codes "mle" ∷ codes "2" ∷ codes "0,0,1,0" ∷ codes "21888242871839275222246405745257275088548364400416034343698204186575808495615,17" ∷ [], codes "51")
    ∷ (codes "size" ∷ codes "268435456" ∷ [], codes "268435456")
    ∷ []

-- a field's rows
abbrev pub HasRows : List ℕ → List Row → Type 0
HasRows field rows =
    ((field ≡ codes "5") × (rows ≡ rows_5))
    ⊎ ((field ≡ codes "433") × (rows ≡ rows_433))
    ⊎ ((field ≡ codes "65537") × (rows ≡ rows_65537))
    ⊎ ((field ≡ codes "babybear") × (rows ≡ rows_babybear))
    ⊎ ((field ≡ codes "koalabear") × (rows ≡ rows_koalabear))
    ⊎ ((field ≡ codes "goldilocks") × (rows ≡ rows_goldilocks))
    ⊎ ((field ≡ codes "bls12-381") × (rows ≡ rows_bls12_381))
    ⊎ ((field ≡ codes "bn254") × (rows ≡ rows_bn254))
