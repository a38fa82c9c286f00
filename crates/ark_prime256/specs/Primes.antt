-- The certificates of the primes of this crate's fields: the primes of p - 1, each small or with a certificate of its own.
use Rattle.ark_base.specs.Lucas.{Parts, done, small, large}

-- the scalar field's prime of the curve BLS12-381
abbrev pub bls12_381_scalar_parts : Parts
bls12_381_scalar_parts =
    small 2 (small 3 (small 11 (small 19 (small 10177 (small 125527 (small 859267 (small 906349
    (large 2508409 11 (small 2 (small 3 (small 7 (small 79 done))))
    (large 2529403 2 (small 2 (small 3 (small 23 (small 18329 done))))
    (large 52437899 2 (small 2 (small 43 (small 609743 done)))
    (large 254760293 2 (small 2 (large 63690073 7 (small 2 (small 3 (large 2653753 5 (small 2 (small 3 (small 110573 done))) done))) done))
    done)))))))))))

-- that of the curve BN254
abbrev pub bn254_scalar_parts : Parts
bn254_scalar_parts =
    small 2 (small 3 (small 13 (small 29 (small 983 (small 11003 (small 237073
    (large 405928799 22 (small 2 (small 11 (small 3691 (small 4999 done))))
    (large 1670836401704629 2
    (small 2 (small 3 (large 5156902474397 2 (small 2 (small 107 (large 12048837557 2 (small 2 (small 7 (small 661 (small 93001 done)))) done))) done)))
    (large 13818364434197438864469338081 3
    (small 2 (small 5 (small 823 (large 1593227 2 (small 2 (small 19 (small 41927 done)))
    (large 65865678001877903 5 (small 2 (small 83 (small 379 (small 1637 (large 639533339 2 (small 2 (small 229 (small 853 (small 1637 done)))) done))))) done)))))
    done)))))))))

-- that of the curve Pallas
abbrev pub pallas_scalar_parts : Parts
pallas_scalar_parts =
    small 2 (small 3 (small 1709 (small 24859 (large 1690502597179744445941507 2 (small 2 (small 3 (small 13
    (large 4129989133 5 (small 2 (small 3 (small 359 (small 958679 done))))
    (large 5247740253619 2 (small 2 (small 3 (small 17 (small 71 (large 80513981 2 (small 2 (small 5
    (large 4025699 2 (small 2 (large 2012849 3 (small 2 (small 125803 done)) done)) done))) done))))) done)))))
    (large 10427374428728808478656897599072717 2 (small 2 (small 294793
    (large 4229279 13 (small 2 (small 827 (small 2557 done))) (large 399082391 7 (small 2 (small 5 (small 7
    (large 5701177 7 (small 2 (small 3 (small 13 (small 6091 done)))) done))))
    (large 5239247429827 2 (small 2 (small 3 (small 757 (small 12149 (small 31649 done))))) done))))) done)))))

-- that of the curve Vesta
abbrev pub vesta_scalar_parts : Parts
vesta_scalar_parts =
    small 2 (small 3 (small 463 (large 539204044132271846773 5 (small 2 (small 3 (small 89 (small 14923
    (large 417677162933 2 (small 2 (small 59 (small 1973 (small 897019 done)))) done)))))
    (large 8999194758858563409123804352480028797519453 2 (small 2 (small 3 (small 11 (small 2531 (small 115603
    (large 1197907 3 (small 2 (small 3 (small 53 (small 3767 done)))) (large 22160661629 3 (small 2 (small 7 (small 19
    (large 41655379 2 (small 2 (small 3
    (large 6942563 2 (small 2 (small 11 (small 17 (small 19 (small 977 done))))) done))) done))))
    (large 325086459374267 2 (small 2 (small 509 (small 413527 (small 772231 done)))) done)))))))) done))))
