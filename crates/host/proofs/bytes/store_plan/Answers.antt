use Rattle.std.proofs.Common.{◌++◌, length, refl}
use Rattle.std.proofs.lemmas.Bool.{le-ltb}
use Rattle.host.specs.Bytes.{four_bytes}
use Rattle.host.proofs.Stores.{stored_on}
use Rattle.host.proofs.bytes.store_plan.Goals as goal

pub returns-clause-bytes : goal.returns-clause-bytes
returns-clause-bytes c =
    let g = four_bytes c.args.plan.g in
    let h_a = four_bytes c.args.plan.h_a in
    let h_r = four_bytes c.args.plan.h_r in
    let n_t = four_bytes c.args.plan.n_t in
    let two = stored_on c.args.out.now c.store.new.out c.store-2.new.out c.to_le_bytes.result c.to_le_bytes-2.result g h_a 4
    c.store.ensures c.store-2.ensures c.to_le_bytes.ensures c.to_le_bytes-2.ensures refl in
    let three = stored_on c.args.out.now c.store-2.new.out c.store-3.new.out (g ++ h_a) c.to_le_bytes-3.result (g ++ h_a) h_r 8
    two c.store-3.ensures refl c.to_le_bytes-3.ensures refl in
    let four = stored_on c.args.out.now c.store-3.new.out c.store-4.new.out ((g ++ h_a) ++ h_r) c.to_le_bytes-4.result ((g ++ h_a) ++ h_r) n_t 12
    three c.store-4.ensures refl c.to_le_bytes-4.ensures refl in
    rw (le-ltb (length c.args.out.now) 16 c.if-out-lt16.false) four
