-- The rows and the edges of the table, by evaluation.
--     job_of_bytes       the bytes of each row are read as its job, and those of each edge as it says
--     records_of_job     routing each row's job by tables that pass their tests writes its records
--     plan_of_A          the plan of the first row
use mathlib.Core.Path.{◌≡◌, refl}
use mathlib.Core.List.{List, [], ◌∷◌, flat_map}
use Rattle.bits.specs.Bits.{field_bits, number, bits_of, pack_to, pack_bits, field, whole, group_bits}
use Rattle.job.specs.Lists.{any, all, All}
use Rattle.job.specs.Grid.{vertices, vertex_number, inside, same, steps_column, next_high, run_high, stride_of}
use Rattle.job.specs.Job.{largest_min_length}
use Rattle.job.specs.Reading.{good, ◌>>=◌, ◌>>◌, rule, read_many, head_at, read_head, layer_at, via_rule, read_layer, vertex_at, covered, on_obstacle, read_pin, read_pins}
use Rattle.job.specs.Reading.{box_at, good_span, good_box, read_box, read_net, net_width, read_nets, nets_width, read_tail, obstacles_at, nets_at}
use Rattle.job.specs.Reading.{read_after_head, read_job}
use Rattle.job.specs.Heads.{read_bits}
use Rattle.paths.specs.Distances.{is_cost, onward, keeps, lowest_from, lowest_keeping, move_on, follow}
use Rattle.paths.specs.Starts.{or_next, best, start_cost}
use Rattle.rules.specs.Tracks.{layer_of, row_of, column_of, track_index, track_length, if_there, entered}
use Rattle.rules.specs.Views.{member, others_hold, in_box, in_guide, pins_of, boxes_of, view_of}
use Rattle.rules.specs.Segments.{opposite, kind_of, against, of_length, not_against, grow}
use Rattle.rules.specs.Prices.{tech_of, line_of, charge, penalty, closing, base, guide_at, short_at, sum_cost, entering}
use Rattle.rules.specs.Overheads.{clear, toward, on_from, clear_run, back_from, first_of, both_ends, otherwise, lengthened_by, too_short, overhead_of}
use Rattle.rules.specs.Steps.{leaving, stepping, by_segment, if_priced, into, step, priced}
use Rattle.rules.specs.Walks.{start_at, after, go_on, walk}
use Rattle.rules.specs.Standings.{metal_at_first, begun, without, more, joined_by}
use Rattle.rules.specs.Joins.{places}
use Rattle.rules.specs.Tabled.{join_from, join_by}
use Rattle.rules.specs.Places.{segment_code, entry_cost}
use Rattle.rules.proofs.Certificates.{table_cost, within_test, settled_test, supported_test, moves_test, place_test, all_below, all_segments, certified}
use Rattle.plan.specs.Layout.{record_bits, plan_bytes}
use Rattle.marked.specs.Table.{via_below, plain_lines, plain_job, pin, Row, row_a, row_b, row_c, row_d, row_e, row_f, row_g, row_h, row_i, row_j, row_k, row_l, row_n, rows}
use Rattle.marked.specs.Table.{IsEdge, largest_grid, larger_grid, least_m, no_m, edges}
use Rattle.marked.proofs.Costs.{costs_a, costs_b, costs_c, costs_d, costs_e, costs_f, costs_g, costs_h, costs_i, costs_j, costs_k, costs_l, costs_n}
use Rattle.marked.proofs.Checking.{Costs, right, with_records, after_moves, after_record, by_table, net_by, then_nets, nets_by, answer_of, written}

-- the bytes of a row are read as its job
abbrev pub IsRead : Row → Type 0
IsRead row = read_job row.bytes ≡ good row.job

-- "Job in hex": the bytes of each row are read as its job; and those of each edge as it says
pub job_of_bytes : All IsRead rows × All IsEdge edges
unfolding All rows row_a row_b row_c row_d row_e row_f row_g row_h row_i row_j row_k row_l row_n edges largest_grid larger_grid least_m no_m via_below plain_lines plain_job pin
    field_bits number bits_of field whole any all vertices inside same covered run_high next_high steps_column on_obstacle ◌>>=◌ ◌>>◌ rule read_many head_at read_head
    layer_at via_rule read_layer vertex_at read_pin read_pins box_at good_span good_box read_box read_net net_width read_nets nets_width read_tail obstacles_at
    nets_at read_after_head read_bits read_job
job_of_bytes = (
  (refl, (refl, (refl, (refl, (refl, (refl, (refl, (refl, (refl, (refl, (refl, (refl, (refl, tt))))))))))))),
  (refl, (refl, (refl, (refl, tt)))),
)

-- a row's records are what routing its job by some tables of costs gives, and each of the tables passes the
-- test
abbrev pub IsWritten : Row → Type 0
IsWritten row = (costs : List Costs) × (written row.job costs ≡ right row.records)

-- each row's records come out
pub records_of_job : All IsWritten rows
unfolding All rows row_a row_b row_c row_d row_e row_f row_g row_h row_i row_j row_k row_l row_n
    costs_a costs_b costs_c costs_d costs_e costs_f costs_g costs_h costs_i costs_j costs_k costs_l costs_n
    via_below plain_lines plain_job pin
    any all vertices vertex_number same steps_column covered on_obstacle largest_min_length stride_of
    is_cost onward keeps lowest_from lowest_keeping move_on follow or_next best start_cost
    layer_of row_of column_of track_index track_length if_there entered member others_hold in_box in_guide pins_of boxes_of view_of
    opposite kind_of against of_length not_against grow tech_of line_of charge penalty closing base guide_at short_at sum_cost entering
    clear toward on_from clear_run back_from first_of both_ends otherwise lengthened_by too_short overhead_of leaving stepping by_segment if_priced into step priced
    start_at after go_on walk flat_map metal_at_first begun without more joined_by places join_from join_by segment_code
    entry_cost table_cost within_test settled_test supported_test moves_test place_test all_below all_segments certified
    with_records after_moves after_record by_table net_by then_nets nets_by answer_of written
records_of_job = ((costs_a, refl), ((costs_b, refl), ((costs_c, refl), ((costs_d, refl), ((costs_e, refl), ((costs_f, refl), ((costs_g, refl), ((costs_h, refl), ((costs_i, refl), ((costs_j, refl), ((costs_k, refl), ((costs_l, refl), ((costs_n, refl), tt)))))))))))))

-- "the program writes `80 00 00 00 03 54 00 00 00 00 0C`": the bytes of A's plan
pub plan_of_A : plan_bytes row_a.job.grid row_a.records ≡ 0x80 ∷ 0x00 ∷ 0x00 ∷ 0x00 ∷ 0x03 ∷ 0x54 ∷ 0x00 ∷ 0x00 ∷ 0x00 ∷ 0x00 ∷ 0x0C ∷ []
unfolding row_a via_below plain_lines plain_job pin field_bits number pack_to pack_bits group_bits flat_map layer_of row_of column_of record_bits plan_bytes
plan_of_A = refl
